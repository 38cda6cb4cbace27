-- What holds of the candidates of a plan: they are the usable links in rank order, their ends are sites,
-- and their classes rise.
use Rattle.std.proofs.Common.{◌≡◌, ℕ, zero, suc, ◌<◌, ◌≤◌, List, [], ◌∷◌, map, length, get_or, sym, ap, ◌∙◌, subst, inl, inr, arith}
use Rattle.std.proofs.lemmas.List.{ext_get_or, length-map, get_or-map}
use Rattle.std.proofs.lemmas.Bool.{cases_eq, leb-true}
use Rattle.weights.specs.Amounts.{numbers}
use Rattle.forests.specs.Lists.{In, Rising}
use Rattle.forests.specs.Graphs.{Fits}
use Rattle.forests.specs.Labels.{below}
use Rattle.forests.proofs.Members.{in_get_d}
use Rattle.forests.proofs.LabelLists.{length_below, get_d_below}
use Rattle.cheapest.specs.Ranks.{rank}
use Rattle.cheapest.specs.Plans.{graph_of, mark_of, ranked_of}
use Rattle.cheapest.specs.declared.plan.Plan.{Plan}
use Rattle.cheapest.specs.declared.candidates.Candidates.{Candidates}
use Rattle.cheapest.specs.Candidates.{start_of, end_of, class_of, number_of}
use Rattle.cheapest.proofs.TreeRows.{candidates_rising, graph_amounts}
use Rattle.cheapest.proofs.Numbers.{numbers_lawful}

pub rising_places : (key : ℕ → ℕ) (xs : List ℕ) (i j : ℕ) → Rising key xs → i < j → j < length xs → key (get_or xs i 0) < key (get_or xs j 0)
rising_places key [] i j r l k = absurd (omega arith)
rising_places key (x ∷ xs) i zero r l k = absurd (omega arith)
rising_places key (x ∷ xs) zero (suc j) r l k = r.0 (get_or xs j 0) (in_get_d xs j 0 (omega arith))
rising_places key (x ∷ xs) (suc i) (suc j) r l k = rising_places key xs i j r.1 (omega arith) (omega arith)

-- the rank of a plan's links
abbrev pub key_of : Plan → ℕ → ℕ
key_of p = rank (graph_of p) numbers (mark_of p)

pub plan_fits : (p : Plan) → Fits (graph_of p)
plan_fits p = record { from_fits = p.starts; to_fits = p.ends }

module _ (list : Candidates) where
  pub listed : map (number_of list) (below list.count) ≡ ranked_of list.plan
  listed =
      let xs = below list.count in
      let number = number_of list in
      let size : length (map number xs) ≡ list.count = length-map xs number ∙ length_below list.count in
      ext_get_or 0 (map number xs) (ranked_of list.plan) (size ∙ list.all)
      (λ c l. let k : c < list.count = omega (arith, size) in
      get_or-map number xs c 0 0 (omega (arith, length_below list.count))
      ∙ ap number (get_d_below list.count c k) ∙ list.numbers c k)

  pub candidate_in : (c : ℕ) → c < list.count → In (number_of list c) (ranked_of list.plan)
  candidate_in c l = subst (λ x. In x (ranked_of list.plan)) (sym (list.numbers c l)) (in_get_d (ranked_of list.plan) c 0 (omega (arith, list.all)))

  pub keys_rise : (c d : ℕ) → c < d → d < list.count → key_of list.plan (number_of list c) < key_of list.plan (number_of list d)
  keys_rise c d l k =
      let key = key_of list.plan in
      omega (
        arith,
        ap key (list.numbers c (omega arith)),
        ap key (list.numbers d k),
        rising_places key (ranked_of list.plan) c d (candidates_rising (graph_of list.plan) numbers numbers_lawful (mark_of list.plan)) l (omega (arith, list.all)),
      )

  pub classes_rise : (c d : ℕ) → c ≤ d → d < list.count → class_of list c ≤ class_of list d
  classes_rise c d l k =
      let p = list.plan in
      let x = number_of list c in
      let y = number_of list d in
      elim (cases_eq c d) [
        | inl e ↦ omega (arith, ap (λ n. class_of list n) e)
        | inr ne ↦ omega (
          arith,
          list.classes c (omega arith),
          list.classes d k,
          leb-true (mark_of p x) (mark_of p y) (graph_amounts (graph_of p) numbers numbers_lawful (mark_of p) x y (candidate_in c (omega arith)) (candidate_in d k)
              (let h = keys_rise c d (omega arith) k in omega (arith, h))),
        )
      ]

  pub ends_fit : (c : ℕ) → c < list.count → (start_of list c < 64) × (end_of list c < 64)
  ends_fit c l = (list.startfits c l, list.endfits c l)
