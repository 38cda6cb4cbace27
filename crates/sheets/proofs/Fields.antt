-- What a header says that no rule refuses.
use Rattle.std.proofs.Common.{◌≡◌, ℕ, ◌+◌, ◌-◌, ◌*◌, ◌≤◌, not, ◌&&◌, eqb, ltb, leb, None}
use Rattle.std.proofs.lemmas.Bool.{not-false, eqb-true, ltb-false, leb-true, and_parts}
use Rattle.networks.specs.Refusals.{first_of}
use Rattle.networks.proofs.Rules.{passed}
use Rattle.sheets.specs.Reading.{field_rules}
use Rattle.sheets.specs.declared.reader.Header.{Header}

pub record Sound (letter width size room : ℕ) (h : Header) : Type 0 where
  pub counted : h.length ≡ size - 4
  pub version : h.version ≡ 1
  pub kind : h.kind ≡ letter
  pub some : 1 ≤ h.counts.sites
  pub few : h.counts.sites ≤ 64
  pub fewer : h.counts.links ≤ 512
  pub records : h.length ≡ 5 + h.counts.links * (2 + width)
  pub fits : h.counts.links ≤ room

pub sound_fields : (letter width size room : ℕ) (h : Header) → first_of (field_rules letter width size room h.length h.version h.kind h.counts.sites h.counts.links) ≡ None → Sound letter width size room h
sound_fields letter width size room h e =
    let a = passed (not (eqb h.length (size - 4))) _ _ e in
    let b = passed (not (eqb h.version 1)) _ _ a.1 in
    let c = passed (not (eqb h.kind letter)) _ _ b.1 in
    let d = passed (not (leb 1 h.counts.sites && leb h.counts.sites 64)) _ _ c.1 in
    let f = passed (ltb 512 h.counts.links) _ _ d.1 in
    let i = passed (not (eqb h.length (5 + h.counts.links * (2 + width)))) _ _ f.1 in
    let j = passed (ltb room h.counts.links) _ _ i.1 in
    let sites = and_parts (leb 1 h.counts.sites) (leb h.counts.sites 64) (not-false _ d.0) in
    record {
      counted = eqb-true h.length (size - 4) (not-false _ a.0);
      version = eqb-true h.version 1 (not-false _ b.0);
      kind = eqb-true h.kind letter (not-false _ c.0);
      some = leb-true 1 h.counts.sites sites.0;
      few = leb-true h.counts.sites 64 sites.1;
      fewer = ltb-false 512 h.counts.links f.0;
      records = eqb-true h.length (5 + h.counts.links * (2 + width)) (not-false _ i.0);
      fits = ltb-false room h.counts.links j.0;
    }
