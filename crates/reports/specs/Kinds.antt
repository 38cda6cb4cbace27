-- What the two kinds of sheet are made of.
use Rattle.std.specs.Prelude.{ℕ, List, ◌∷◌, ◌++◌, decimal}
use Rattle.sheets.specs.Numbers.{be16, be32}
use Rattle.weights.specs.Scales.{Weighing}
use Rattle.weights.specs.Weighings.{by_metres, by_crossings, paired}
use Rattle.weights.specs.declared.crossings.Crossings.{Crossings}
use Rattle.weights.specs.declared.metres.Metres.{Metres}
use Rattle.weights.specs.declared.pairs.Pair.{Pair}
use Rattle.reports.specs.declared.answers.Kind.{Kind}
use Rattle.reports.specs.declared.answers.Kind.TheVariants.{Metres as metres, CrossingsMetres as crossings}

-- a total is printed as its metres, or as crossings/metres
abbrev pub metres_text : ℕ → List ℕ
metres_text total = decimal total

abbrev pub crossings_text : ℕ × ℕ → List ℕ
crossings_text total = decimal total.0 ++ (47 ∷ decimal total.1)

-- a kind's letter, the number of a weight's bytes and which they are, what a weight means, and how a total is printed
pub record Form : Type 1 where
  pub Weight : Type 0
  pub letter : ℕ
  pub width : ℕ
  pub bytes : Weight → List ℕ
  pub weighing : Weighing Weight
  pub shown : weighing.scale.Amount → List ℕ

abbrev pub form_of : Kind → Form
form_of metres = record {
  Weight = Metres;
  letter = 87;
  width = 4;
  bytes = λ w. be32 w.0;
  weighing = by_metres;
  shown = metres_text;
}
form_of crossings = record {
  Weight = Pair Crossings Metres;
  letter = 80;
  width = 6;
  bytes = λ w. be16 w.first.0 ++ be32 w.second.0;
  weighing = paired by_crossings by_metres;
  shown = crossings_text;
}
