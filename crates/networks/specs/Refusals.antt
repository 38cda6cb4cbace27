-- What each refusal says to the outside, and how a list of rules decides.
use Rattle.std.specs.Prelude.{◌≡◌, ℕ, Bool, cond, ◌⊎◌, List, [], ◌∷◌, ◌++◌, Some, None, Ok, Err, codes, decimal, Option, Result}
use Rattle.networks.specs.declared.refusals.Layer.{Layer}
use Rattle.networks.specs.declared.refusals.Layer.TheVariants.{Sheet, Network, Walk}
use Rattle.networks.specs.declared.refusals.Refusal.{Refusal}
use Rattle.networks.specs.declared.refusals.Refusal.TheVariants.{ShortSheet, WrongLength, UnknownVersion, OtherKind, SheetSiteCount, SiteCount, SheetLinkCount, LinkCount, WrongRecords, NoSuchSite, SelfLink, ShortList, NoSuchLink, UnknownClass, NotListed, BadEntry, TrialNotJoined, NotJoined, NoRowFollows, NotOnRow, NotInRow}
use Rattle.networks.specs.declared.refusals.Report.{Report}

abbrev pub at : Layer → ℕ → ℕ → Report
at layer number place = record { layer = layer; number = number; place = place }

-- the layer, the number and the place of each refusal
abbrev pub report_of : Refusal → Report
report_of (ShortSheet bytes) = at Sheet 1 bytes
report_of WrongLength = at Sheet 2 0
report_of UnknownVersion = at Sheet 3 4
report_of OtherKind = at Sheet 4 5
report_of SheetSiteCount = at Sheet 5 6
report_of SiteCount = at Network 5 0
report_of SheetLinkCount = at Sheet 6 7
report_of LinkCount = at Network 6 0
report_of WrongRecords = at Sheet 7 7
report_of (NoSuchSite link) = at Network 8 link
report_of (SelfLink link) = at Network 9 link
report_of (ShortList layer places) = at layer 10 places
report_of (NoSuchLink link) = at Network 11 link
report_of UnknownClass = at Network 12 0
report_of NotListed = at Walk 13 0
report_of (BadEntry index) = at Network 14 index
report_of TrialNotJoined = at Network 15 0
report_of NotJoined = at Walk 15 0
report_of NoRowFollows = at Walk 16 0
report_of NotOnRow = at Walk 17 0
report_of (NotInRow link) = at Walk 18 link

abbrev pub name_of : Layer → List ℕ
name_of Sheet = codes "sheet"
name_of Network = codes "network"
name_of Walk = codes "walk"

-- the printed line, as `refused 2 at 0 in sheet`
abbrev pub line_of : Report → List ℕ
line_of r = codes "refused " ++ (decimal r.number ++ (codes " at " ++ (decimal r.place ++ (codes " in " ++ name_of r.layer))))

-- a rule: whether it applies, and what it then reports. Of a list of rules the first that applies decides
abbrev pub Rule : Type 0
Rule = Bool × Report

abbrev pub first_of : List Rule → Option Report
first_of [] = None
first_of (rule ∷ rules) = cond rule.0 (Some rule.1) (first_of rules)

-- what an answer refuses with, if it does
abbrev pub refusal_of : {T : Type 0} → Result T Refusal → Option Report
refusal_of (Ok x) = None
refusal_of (Err e) = Some (report_of e)

-- if P holds, this is what is said, and else what comes after decides
abbrev pub Unless : Type 0 → Report → Option Report → Type 0 → Type 0
Unless P report said rest = (P × (said ≡ Some report)) ⊎ ((P → ⊥) × rest)
