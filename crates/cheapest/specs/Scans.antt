-- Runs over candidates that are numbered in rank order. Candidate c has the ends `start c` and `end c`,
-- and a row is a list of candidates. There are n candidates.
use Rattle.std.specs.Prelude.{◌≡◌, ℕ, ◌+◌, ◌<◌, ◌≤◌, Bool, true, false, cond, not, ◌&&◌, Option, MatchOption, List, [], ◌∷◌, ◌++◌, map, length, take, drop, ◌==◌, ◌≢◌, slice_index, slice_index_or}
use Rattle.forests.specs.Closures.{push, picks}
use Rattle.forests.specs.Labels.{find, spanned, below}

-- Candidate c would close a ring with the candidates S.
abbrev pub ring : (ℕ → ℕ) → (ℕ → ℕ) → List ℕ → ℕ → Bool
ring start end = spanned start end

-- The row that begins with `front` and is completed by the candidates from `next` on.
abbrev pub grown : (ℕ → ℕ) → (ℕ → ℕ) → ℕ → List ℕ → ℕ → List ℕ
grown start end n front next = front ++ picks (ring start end) (push [] front) (drop next (below n))

-- Up to place d, the stack holds the labels of 64 sites after so many candidates of the row.
abbrev pub Fronts : (ℕ → ℕ) → (ℕ → ℕ) → List ℕ → List (List ℕ) → ℕ → Type 0
Fronts start end row stack d = (j u : ℕ) → (j ≤ d) × (u < 64)
    → slice_index (slice_index_or stack j []) u ≡ find start end (push [] (take j row)) u

-- Whether the row of link numbers consists of candidates in their order, none of which closes a ring
-- with those before it: one run over the candidates tells.
abbrev pub matches : (List ℕ → ℕ → Bool) → (ℕ → ℕ) → List ℕ → List ℕ → List ℕ → Bool
matches test number S [] [] = true
matches test number S [] (x ∷ row) = false
matches test number S (c ∷ cs) [] = true
matches test number S (c ∷ cs) (x ∷ row) =
    cond (number c == x) (not (test S c) && matches test number (c ∷ S) cs row) (matches test number S cs (x ∷ row))

-- The first d candidates of the row have the wanted classes, and the stack holds the labels after each.
pub record Placed (start end class : ℕ → ℕ) (n : ℕ) (wanted row : List ℕ) (stack : List (List ℕ)) (d : ℕ) : Type 0 where
  pub fronts : Fronts start end row stack d
  pub inside : (j : ℕ) → j < d → slice_index row j < n
  pub classes : (j : ℕ) → j < d → class (slice_index row j) ≡ slice_index wanted j

-- The row that departs from a row at place i: its first i candidates, completed by those after the next.
abbrev pub departed : (ℕ → ℕ) → (ℕ → ℕ) → ℕ → List ℕ → ℕ → List ℕ
departed start end n row i = grown start end n (take i row) (slice_index row i + 1)

-- What a run makes of row₀ that completes its first i candidates by candidates from `first` on: r says
-- whether the completion has the wanted classes; the new row then begins with it.
pub record Completed (start end class : ℕ → ℕ) (n : ℕ) (wanted row₀ : List ℕ) (i first : ℕ) (row : List ℕ) (stack : List (List ℕ)) (r : Bool) : Type 0 where
  pub same : take i row ≡ take i row₀
  pub placed : Placed start end class n wanted row stack i
  pub found : r ≡ true → Placed start end class n wanted row stack (length wanted)
  pub grows : r ≡ true → take (length wanted) (grown start end n (take i row₀) first) ≡ take (length wanted) row
  pub misses : r ≡ false → map class (grown start end n (take i row₀) first) ≢ wanted

-- The new row begins with the departure of row₀ at place i, the last that has the wanted classes.
pub record Departs (start end class : ℕ → ℕ) (n : ℕ) (wanted row₀ row : List ℕ) (stack : List (List ℕ)) (i : ℕ) : Type 0 where
  pub inside : i < length wanted
  pub same : take i row ≡ take i row₀
  pub placed : Placed start end class n wanted row stack (length wanted)
  pub grows : take (length wanted) (departed start end n row₀ i) ≡ take (length wanted) row
  pub misses : (j : ℕ) → i < j → j < length wanted → map class (departed start end n row₀ j) ≢ wanted

-- What a search makes of row₀ that tries its departures from the last place on: r is the place of the first
-- that has the wanted classes, with which the new row begins, if there is one.
pub record Moved (start end class : ℕ → ℕ) (n : ℕ) (wanted row₀ row : List ℕ) (stack : List (List ℕ)) (r : Option ℕ) : Type 0 where
  pub empty : Fronts start end row stack 0
  pub answers : MatchOption r ((j : ℕ) → j < length wanted → map class (departed start end n row₀ j) ≢ wanted)
      (Departs start end class n wanted row₀ row stack)

-- What a run makes of the row that looks for the candidates of the given link numbers: r says whether they
-- are a row; the new row begins with them.
pub record Matched (start end number : ℕ → ℕ) (n : ℕ) (numbers row : List ℕ) (stack : List (List ℕ)) (r : Bool) : Type 0 where
  pub answers : r ≡ matches (ring start end) number [] (below n) numbers
  pub empty : Fronts start end row stack 0
  pub placed : r ≡ true → Placed start end number n numbers row stack (length numbers)

-- What a run over all candidates makes of a row that begins with `front`: the greedy completion of that
-- front, of length r.
pub record Filled (start end : ℕ → ℕ) (n : ℕ) (front row : List ℕ) (stack : List (List ℕ)) (r : ℕ) : Type 0 where
  pub few : r < 64
  pub whole : take r row ≡ grown start end n front 0
  pub fronts : Fronts start end row stack r
  pub inside : (j : ℕ) → j < r → slice_index row j < n

-- Candidate c is another link than the given one, has the given class, and closes no ring with the row.
pub record Crosses (start end class number : ℕ → ℕ) (row : List ℕ) (link wanted c : ℕ) : Type 0 where
  pub other : number c ≡ link → ⊥
  pub level : class c ≡ wanted
  pub apart : ring start end (push [] row) c ≡ false
