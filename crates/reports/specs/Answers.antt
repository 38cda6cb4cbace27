-- What is answered to a sheet.
use Rattle.std.specs.Prelude.{◌≡◌, ℕ, cond, List, ◌++◌, length, Ok, Err, codes, decimal, Result, ◌==◌, slice_index}
use Rattle.networks.specs.Networks.{sites_of, links_of}
use Rattle.networks.specs.Refusals.{report_of, line_of}
use Rattle.networks.specs.declared.networks.Network.{Network}
use Rattle.networks.specs.declared.refusals.Refusal.{Refusal}
use Rattle.reports.specs.declared.answers.Contents.{Contents}
use Rattle.reports.specs.Judging.{RefusedWith, Judged}
use Rattle.reports.specs.Kinds.{form_of}
use Rattle.reports.specs.declared.answers.Kind.{Kind}
use Rattle.reports.specs.declared.answers.Kind.TheVariants.{Metres as metres, CrossingsMetres as crossings}

-- P where byte 5 is hexadecimal 50, and W otherwise
abbrev pub kind_of : List ℕ → Kind
kind_of sheet = cond (slice_index sheet 5 == 80) crossings metres

abbrev pub counted : ℕ → ℕ → Contents
counted sites links = record { sites = sites; links = links }

-- the answer to a sheet that is read as one kind: the number of its sites and links, or the refusal to read or open them
abbrev pub AnswersKind : (letter width : ℕ) {K : Type 0} (bytes : K → List ℕ) → List ℕ → Result Contents Refusal → Type 0
AnswersKind letter width bytes sheet a = Judged letter width bytes sheet (λ sites links. a ≡ Ok (counted sites (length links))) (RefusedWith a)

-- the answer to a sheet, read as the kind that its byte 5 says
abbrev pub AnswersAs : Kind → List ℕ → Result Contents Refusal → Type 0
AnswersAs kind sheet a = let form = form_of kind in AnswersKind form.letter form.width form.bytes sheet a

abbrev pub Answers : List ℕ → Result Contents Refusal → Type 0
Answers sheet a = AnswersAs (kind_of sheet) sheet a

-- how many sites and links a network has
abbrev pub counts_of : {K : Type 0} → Network K → Contents
counts_of n = counted (sites_of n) (length (links_of n))

-- the answer that loading leads to
abbrev pub told_of : {K : Type 0} → Result (Network K) Refusal → Result Contents Refusal
told_of (Ok n) = Ok (counts_of n)
told_of (Err e) = Err e

-- the printed line, as `sites 4 links 5`
abbrev pub sound_line : ℕ → ℕ → List ℕ
sound_line sites links = codes "sites " ++ (decimal sites ++ (codes " links " ++ decimal links))

abbrev pub line_of_answer : Result Contents Refusal → List ℕ
line_of_answer (Ok c) = sound_line c.sites c.links
line_of_answer (Err e) = line_of (report_of e)
