-- The worked examples together, each from its drawing.
use Rattle.std.proofs.Common.{◌≡◌, ℕ, true, false, ◌↔◌, List, [], ◌∷◌, map, refl, subst, inl, inr}
use Rattle.forests.specs.Labels.{below}
use Rattle.forests.specs.Lists.{In}
use Rattle.weights.specs.Amounts.{numbers}
use Rattle.weights.specs.Scales.{sum_of}
use Rattle.cheapest.specs.Completions.{passing}
use Rattle.cheapest.specs.Trees.{FullList}
use Rattle.networks.specs.Classes.{HasClass}
use Rattle.networks.specs.declared.classes.Class.{Class}
use Rattle.networks.specs.declared.classes.Class.TheVariants.{Never, Always, Sometimes}
use Rattle.worked.specs.Drawn.{Drawn}
use Rattle.worked.specs.WorkedExamples.{Lists, Classed, Substituted, WorkedExamples}
use Rattle.worked.specs.Samples.{sample, sample_rows, rivals}
use Rattle.walks.specs.Substitutes.{Substitutes}
use Rattle.worked.proofs.Classing.{has, stands, has_decides, stands_decides, always, sometimes, never}
use Rattle.worked.proofs.Drawings.{drawn_graph, drawn_metres, holds_drawn}
use Rattle.worked.proofs.Listings.{ListsDrawn, one_site_lists, two_sites_lists, sample_lists, triangle_lists, twins_list, rivals_list}
use Rattle.worked.proofs.Swapping.{fills, substitutes_are}
use Rattle.worked.proofs.SampleWalks.{sample_walk, sample_kept, sample_sought}
use Rattle.worked.proofs.SmallWalks.{one_site_walk, two_sites_walk}

lists : {sites : ℕ} {links : List Drawn} {rows : List (List ℕ)} → ListsDrawn sites links rows → Lists sites links rows
lists {sites} {links} {rows} = holds_drawn sites links (λ g w. FullList g numbers w rows)

class : (sites : ℕ) (links : List Drawn) (e : ℕ) (c : Class) → HasClass (drawn_graph sites links) numbers (drawn_metres links) e c → Classed sites links e c
class sites links e c = holds_drawn sites links (λ g w. HasClass g numbers w e c)

-- one row of the sample network has the link, and another has not
sometimes_in_sample : (e : ℕ) (r q : List ℕ) → stands r sample_rows ≡ true → has e r ≡ true → stands q sample_rows ≡ true → has e q ≡ false → Classed 4 sample e Sometimes
sometimes_in_sample e r q listed inside other lacks =
    class 4 sample e Sometimes (sometimes (drawn_graph 4 sample) (drawn_metres sample) sample_rows sample_lists e r q ((stands_decides r sample_rows).0 listed) ((has_decides e r).0 inside)
    ((stands_decides q sample_rows).0 other) lacks)

-- the substitutes of a link in the first row of the sample network
substituted : (e : ℕ) (others : List ℕ) → In e (3 ∷ 0 ∷ 1 ∷ [])
    → passing (fills (drawn_graph 4 sample) (drawn_metres sample) sample_rows sample_lists (3 ∷ 0 ∷ 1 ∷ []) e) (below 5) ≡ others → Substituted 4 sample (3 ∷ 0 ∷ 1 ∷ []) e others
substituted e others inside are =
    holds_drawn 4 sample (λ g w. (f : ℕ) → Substitutes g numbers w (3 ∷ 0 ∷ 1 ∷ []) e f ↔ In f others)
    (λ f. subst (λ (xs : List ℕ). Substitutes (drawn_graph 4 sample) numbers (drawn_metres sample) (3 ∷ 0 ∷ 1 ∷ []) e f ↔ In f xs) are
    (substitutes_are (drawn_graph 4 sample) (drawn_metres sample) sample_rows sample_lists (3 ∷ 0 ∷ 1 ∷ []) e (inl refl) inside f))

pub worked_examples : WorkedExamples
worked_examples = record {
  one_site_lists = lists one_site_lists;
  two_sites_lists = lists two_sites_lists;
  sample_lists = lists sample_lists;
  triangle_lists = lists triangle_lists;
  twins_list = lists twins_list;
  rivals_list = lists rivals_list;
  one_site_walk = one_site_walk;
  two_sites_walk = two_sites_walk;
  sample_walk = sample_walk;
  sample_kept = sample_kept;
  sample_sought = sample_sought;
  sample_price = holds_drawn 4 sample (λ g w. sum_of numbers (map w (3 ∷ 0 ∷ 1 ∷ [])) ≡ 5) refl;
  dearer_price = holds_drawn 4 sample (λ g w. sum_of numbers (map w (0 ∷ 1 ∷ 4 ∷ [])) ≡ 6) refl;
  sample_class_0 = sometimes_in_sample 0 (3 ∷ 0 ∷ 1 ∷ []) (3 ∷ 1 ∷ 2 ∷ []) refl refl refl refl;
  sample_class_1 = sometimes_in_sample 1 (3 ∷ 0 ∷ 1 ∷ []) (3 ∷ 0 ∷ 2 ∷ []) refl refl refl refl;
  sample_class_2 = sometimes_in_sample 2 (3 ∷ 0 ∷ 2 ∷ []) (3 ∷ 0 ∷ 1 ∷ []) refl refl refl refl;
  sample_class_3 = class 4 sample 3 Always (always (drawn_graph 4 sample) (drawn_metres sample) sample_rows sample_lists 3 (3 ∷ 0 ∷ 1 ∷ []) (inl refl) (inl refl) refl);
  sample_class_4 = sometimes_in_sample 4 (3 ∷ 0 ∷ 4 ∷ []) (3 ∷ 0 ∷ 1 ∷ []) refl refl refl refl;
  sample_substitutes_1 = substituted 1 (2 ∷ 4 ∷ []) (inr (inr (inl refl))) refl;
  sample_substitutes_3 = substituted 3 [] (inl refl) refl;
  rivals_class_0 = class 2 rivals 0 Always (always (drawn_graph 2 rivals) (drawn_metres rivals) _ rivals_list 0 (0 ∷ []) (inl refl) (inl refl) refl);
  rivals_class_1 = class 2 rivals 1 Never (never (drawn_graph 2 rivals) (drawn_metres rivals) _ rivals_list 1 refl);
  crossings_decide = refl;
  crossings_differ = refl;
}
