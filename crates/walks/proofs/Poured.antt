-- A pour, one offer at a time.
use Rattle.std.proofs.Common.{◌≡◌, ℕ, ◌+◌, ◌<◌, List, [], ◌∷◌, ◌++◌, length, Ok, Err, Result, sym, refl, ◌∙◌, subst, arith}
use Rattle.std.proofs.lemmas.List.{length-append}
use Rattle.forests.specs.Graphs.{SitesJoined}
use Rattle.cheapest.specs.Plans.{graph_of}
use Rattle.cheapest.specs.Positions.{plan_of}
use Rattle.cheapest.specs.declared.enumeration.Rows.{Rows}
use Rattle.cheapest.specs.declared.plan.Plan.{Plan}
use Rattle.receivers.specs.Rules.{Rule}
use Rattle.walks.specs.Answering.{EndsFor, at_limit, no_tree, no_more, letter_l}
use Rattle.walks.specs.Doing.{OfferDoes, PourDoes}
use Rattle.walks.specs.Letters.{letter_of}
use Rattle.walks.specs.Steps.{SoFar}
use Rattle.walks.specs.Walks.{place_in, ListedBy}
use Rattle.walks.specs.declared.endings.Ending.{Ending}
use Rattle.walks.specs.declared.endings.Ending.TheVariants.{LimitReached, NotJoined, NoneFollows, NotTaken}
use Rattle.walks.proofs.Listed.{listed_once}
use Rattle.walks.proofs.Moves.{place_listed}
use Rattle.walks.proofs.Steps.{poured_none, poured_more, ends_not_taken, step_pours}

-- So many rows were taken on the way from `before` to `now`.
pub record Taken (before now : Rows) (rule : Rule) (held held' : List ℕ) (count : ℕ) : Type 0 where
  pub plan : plan_of now ≡ plan_of before
  pub so_far : (L : List (List ℕ)) → ListedBy (plan_of before) L → (rows : List (List ℕ)) × (length rows ≡ count) × SoFar L rule (place_in before) held rows (place_in now) held'

pub taken_none : (rows : Rows) (rule : Rule) (held : List ℕ) → Taken rows rows rule held held 0
taken_none rows rule held = record { plan = refl; so_far = λ L full. ([], refl, poured_none L 0 (SitesJoined (graph_of (plan_of rows))) rule (place_in rows) held (place_listed rows L full)) }

-- What an offer at `now` does, told by the full list of the plan that the pour began with.
module _ (before now next : Rows) (rule rule' : Rule) (held held' held'' : List ℕ) (count : ℕ) (said : Result (Unit {0}) Ending)
    (taken : Taken before now rule held held' count) (same : rule' ≡ rule)
    (does : (L : List (List ℕ)) → ListedBy (plan_of now) L → OfferDoes L (SitesJoined (graph_of (plan_of now))) rule' (place_in now) held' said (place_in next) held'') where
  offered : (L : List (List ℕ)) → ListedBy (plan_of before) L → OfferDoes L (SitesJoined (graph_of (plan_of before))) rule (place_in now) held' said (place_in next) held''
  offered =
      subst (λ (p : Plan). (L : List (List ℕ)) → ListedBy p L → OfferDoes L (SitesJoined (graph_of p)) rule (place_in now) held' said (place_in next) held'') taken.plan
      (λ L full. subst (λ (ρ : Rule). OfferDoes L (SitesJoined (graph_of (plan_of now))) ρ (place_in now) held' said (place_in next) held'') same (does L full))

  pub taken_more : said ≡ Ok tt → plan_of next ≡ plan_of now → Taken before next rule held held'' (count + 1)
  taken_more none plan' = record {
    plan = plan' ∙ taken.plan;
    so_far = λ L full.
        let (rows, long, far) = taken.so_far L full in
        let (joined, o) = subst (λ (x : Result (Unit {0}) Ending). OfferDoes L (SitesJoined (graph_of (plan_of before))) rule (place_in now) held' x (place_in next) held'') none (offered L full) in
        let more = poured_more L 0 (SitesJoined (graph_of (plan_of before))) rule (place_in before) held (listed_once _ _ L full) rows o.0 (place_in now) held' far o.1 o.2 in (
          rows ++ (o.0 ∷ []),
          omega (arith, length-append rows (o.0 ∷ []), long),
          record {
            in_order = more.in_order;
            all_taken = more.all_taken;
            moves = o.3 ∙ more.moves;
            holding = o.4 ∙ more.holding;
          },
        );
  }

  ends : (ending : Ending) (limit : ℕ) (L : List (List ℕ)) → ListedBy (plan_of before) L → count < limit
      → OfferDoes L (SitesJoined (graph_of (plan_of before))) rule (place_in now) held' (Err ending) (place_in next) held''
      → EndsFor L (SitesJoined (graph_of (plan_of before))) rule limit count (place_in now) held' (letter_of ending) × (place_in next ≡ place_in now) × (held'' ≡ held')
  ends LimitReached limit L full l o = absurd o
  ends NotJoined limit L full l o = (no_tree l o.0 refl, o.1, o.2)
  ends NoneFollows limit L full l o = (no_more l o.0 o.1 refl, o.2, o.3)
  ends NotTaken limit L full l o =
      (ends_not_taken L 0 (SitesJoined (graph_of (plan_of before))) rule (place_in now) held' (listed_once _ _ L full) limit count o.1.0 l o.0 o.1.1 o.1.2, o.2, o.3)

  pub taken_ends : (ending : Ending) (limit : ℕ) → said ≡ Err ending → count < limit → (L : List (List ℕ)) → ListedBy (plan_of before) L
      → PourDoes L (SitesJoined (graph_of (plan_of before))) rule (place_in before) held limit count (letter_of ending) (place_in next) held''
  taken_ends ending limit some l L full =
      let (rows, long, far) = taken.so_far L full in
      let (why, place, hold) = ends ending limit L full l
      (subst (λ (x : Result (Unit {0}) Ending). OfferDoes L (SitesJoined (graph_of (plan_of before))) rule (place_in now) held' x (place_in next) held'') some (offered L full)) in
      let s = step_pours L 0 (SitesJoined (graph_of (plan_of before))) rule (place_in before) held limit rows (letter_of ending) (place_in now) held' far (omega arith)
      (subst (λ (n : ℕ). EndsFor L (SitesJoined (graph_of (plan_of before))) rule limit n (place_in now) held' (letter_of ending)) (sym long) why) in
      (rows, long, s.in_order, s.answered, place ∙ s.moves, hold ∙ s.holding)

-- The limit is reached.
pub taken_all : (before now : Rows) (rule : Rule) (held held' : List ℕ) (limit : ℕ) → Taken before now rule held held' limit → (L : List (List ℕ)) → ListedBy (plan_of before) L
    → PourDoes L (SitesJoined (graph_of (plan_of before))) rule (place_in before) held limit limit letter_l (place_in now) held'
taken_all before now rule held held' limit taken L full =
    let (rows, long, far) = taken.so_far L full in
    let s = step_pours L 0 (SitesJoined (graph_of (plan_of before))) rule (place_in before) held limit rows letter_l (place_in now) held' far (omega arith)
    (at_limit long refl) in
    (rows, long, s.in_order, s.answered, s.moves, s.holding)
