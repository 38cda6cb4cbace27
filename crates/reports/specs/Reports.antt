-- What is printed of a sheet.
use Rattle.std.specs.Prelude.{◌≡◌, ℕ, List, [], ◌∷◌, ◌++◌, Ok, Err, Result}
use Rattle.networks.specs.Refusals.{report_of, line_of}
use Rattle.networks.specs.declared.networks.Network.{Network}
use Rattle.networks.specs.declared.refusals.Refusal.{Refusal}
use Rattle.networks.specs.declared.refusals.Report.{Report as Told}
use Rattle.weights.specs.Scales.{Weighing}
use Rattle.reports.specs.Answers.{kind_of}
use Rattle.reports.specs.Judging.{NetworkOf, Judged}
use Rattle.reports.specs.Kinds.{form_of}
use Rattle.reports.specs.Listing.{Report}
use Rattle.reports.specs.Sinks.{PutOut}
use Rattle.reports.specs.declared.answers.Kind.{Kind}

-- the single line of a refusal
abbrev pub RefusedText : List ℕ → Told → Type 0
RefusedText text report = text ≡ line_of report ++ (10 ∷ [])

-- what is printed of what loading gave
abbrev pub PrintsLoaded : {K : Type 0} (kind : Weighing K) (shown : kind.scale.Amount → List ℕ) → Result (Network K) Refusal → List ℕ → Type 0
PrintsLoaded kind shown (Ok n) text = Report kind shown n text
PrintsLoaded kind shown (Err e) text = RefusedText text (report_of e)

-- the report of a sheet that is read as one kind: that of its network, or the line of the refusal to read or open it
abbrev pub ReportsKind : (letter width : ℕ) {K : Type 0} (bytes : K → List ℕ) (kind : Weighing K) (shown : kind.scale.Amount → List ℕ) → List ℕ → List ℕ → Type 0
ReportsKind letter width {K} bytes kind shown sheet text =
    Judged letter width bytes sheet (λ sites links. (n : Network K) × NetworkOf sites links n × Report kind shown n text) (RefusedText text)

-- the report of a sheet that is read as this kind
abbrev pub ReportsAs : Kind → List ℕ → List ℕ → Type 0
ReportsAs kind sheet text = let form = form_of kind in ReportsKind form.letter form.width form.bytes form.weighing form.shown sheet text

-- the report of a sheet, read as the kind that its byte 5 says
abbrev pub Reports : List ℕ → List ℕ → Type 0
Reports sheet text = ReportsAs (kind_of sheet) sheet text

-- the report of a sheet was put out, and nothing else
abbrev pub PutsReport : {S : Type 0} → (S → List ℕ → S → Type 0) → Kind → List ℕ → S → S → Type 0
PutsReport took kind sheet start end = (text : List ℕ) × ReportsAs kind sheet text × PutOut took start text end

-- the report of a network, with totals printed as `shown` says, was put out, and nothing else
abbrev pub PutsNetwork : {K S : Type 0} (kind : Weighing K) (shown : kind.scale.Amount → List ℕ) → (S → List ℕ → S → Type 0) → Network K → S → S → Type 0
PutsNetwork kind shown took n start end = (text : List ℕ) × Report kind shown n text × PutOut took start text end

-- the same, however amounts are printed, if the text of a total is that of its sum
abbrev pub PutsWalked : {K : Type 0} (kind : Weighing K) {T : Type 0} (text : T → List ℕ) (sum : T → kind.scale.Amount) {S : Type 0} → (S → List ℕ → S → Type 0) → Network K → S → S → Type 0
PutsWalked kind {T} text sum took n start end = (shown : kind.scale.Amount → List ℕ) → ((t : T) → text t ≡ shown (sum t)) → PutsNetwork kind shown took n start end
