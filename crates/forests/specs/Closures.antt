-- Spanning, with its laws of exchange, independence, and the greedy completion of an independent list.
use Rattle.std.specs.Prelude.{ℕ, Bool, cond, ◌⊎◌, List, [], ◌∷◌, Decides}
use mathlib.Core.List.{reverse_aux}
use Rattle.forests.specs.Lists.{In}

-- A list S spans some numbers, its own members among them. For links of a graph: S spans e if S
-- joins the ends of e. In these lists the newest member comes first.

-- S spans every member of xs.
abbrev pub Covers : (List ℕ → ℕ → Type 0) → List ℕ → List ℕ → Type 0
Covers Span S xs = (x : ℕ) → In x xs → Span S x

-- The laws of spanning, and a test that decides it. By `trans` only what a list spans matters; by
-- `exchange`, where f was needed to span e, e serves as well to span f.
pub record Closure (Span : List ℕ → ℕ → Type 0) (test : List ℕ → ℕ → Bool) : Type 0 where
  pub mem : (S : List ℕ) (e : ℕ) → In e S → Span S e
  pub trans : (S S' : List ℕ) (e : ℕ) → Covers Span S' S → Span S e → Span S' e
  pub exchange : (S : List ℕ) (e f : ℕ) → Span (f ∷ S) e → Span S e ⊎ Span (e ∷ S) f
  pub dec : (S : List ℕ) (e : ℕ) → Decides (test S e) (Span S e)

-- No member is spanned by those that came before it.
abbrev pub Indep : (List ℕ → ℕ → Type 0) → List ℕ → Type 0
Indep Span [] = Unit {0}
Indep Span (x ∷ S) = (Span S x → ⊥) × Indep Span S

-- The members of xs can be put upon S one by one, none being spanned when its turn comes.
abbrev pub Free : (List ℕ → ℕ → Type 0) → List ℕ → List ℕ → Type 0
Free Span S [] = Unit {0}
Free Span S (x ∷ xs) = (Span S x → ⊥) × Free Span (x ∷ S) xs

-- S after the members of xs were put upon it one by one.
abbrev pub push : List ℕ → List ℕ → List ℕ
push S xs = reverse_aux xs S

-- The greedy completion of S: go through the candidates in their order, and pick each that is not
-- spanned by S and the picks so far.
abbrev pub picks : (List ℕ → ℕ → Bool) → List ℕ → List ℕ → List ℕ
picks test S [] = []
picks test S (c ∷ cs) = cond (test S c) (picks test S cs) (c ∷ picks test (c ∷ S) cs)
