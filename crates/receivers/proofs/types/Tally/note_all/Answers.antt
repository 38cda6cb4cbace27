use Rattle.std.proofs.Common.{◌≡◌, ℕ, ◌+◌, ◌<◌, List, length, get_or, take, sym, refl, ◌∙◌, subst, arith}
use Rattle.std.proofs.lemmas.List.{length-map, take_more, take_all}
use Rattle.receivers.specs.Tallies.{counts_of, lasts_of}
use Rattle.receivers.proofs.Counting.{Noted, noted_none, noted_room, noted_step, noted_all, links_below}
use Rattle.receivers.proofs.types.Tally.note_all.Goals as goal

pub loop-link-init : goal.loop-link-init
loop-link-init c =
    let t = c.args.self.now in
    (refl, noted_none t.rows (counts_of t) (lasts_of t) (length-map t.links (λ c. c.times) ∙ t.all) (length-map t.links (λ c. c.last) ∙ t.all) (λ k. (c.requires.room k).0))

pub note-requires : goal.note-requires
note-requires c =
    let t = c.args.self.now in
    let row = c.args.row.now in
    let i = c.loop-link.link-index in
    let now = c.loop-link.self in
    let link = get_or row i 0 in
    let below : link < 512 = links_below row i c.requires.links (omega arith) in
    record {
      inside = below;
      room = λ less.
          subst (λ (n : ℕ). get_or (counts_of now) link 0 < n) (sym c.loop-link.invariant.0)
          (noted_room t.rows (counts_of t) (take i row) (counts_of now) (lasts_of now) c.loop-link.invariant.1 link below (λ k. (c.requires.room k).1) (omega (arith, c.loop-link.invariant.0)));
    }

pub loop-link-preserved : goal.loop-link-preserved
loop-link-preserved c =
    let t = c.args.self.now in
    let row = c.args.row.now in
    let i = c.loop-link.link-index in
    let now = c.loop-link.self in
    let link = get_or row i 0 in
    let below : link < 512 = links_below row i c.requires.links (omega arith) in
    let inv = c.loop-link.invariant in (
      c.note.ensures.rows ∙ inv.0,
      noted_step t.rows (counts_of t) (take i row) (counts_of now) (lasts_of now) inv.1 link now.rows (take (i + 1) row) (counts_of c.note.new.self) (lasts_of c.note.new.self) below
          inv.0 (take_more row i 0 (omega arith)) c.note.ensures.counts c.note.ensures.lasts,
    )

pub returns : goal.returns
returns c =
    let t = c.args.self.now in
    let now = c.loop-link.self in
    let whole : take c.loop-link.link-index c.args.row.now ≡ c.args.row.now = take_all c.loop-link.link-index c.args.row.now (omega arith) in
    record {
      rows = c.loop-link.invariant.0;
      counts = noted_all t.rows (counts_of t) c.args.row.now (counts_of now) (lasts_of now) (subst (λ (seen : List ℕ). Noted t.rows (counts_of t) seen (counts_of now) (lasts_of now)) whole c.loop-link.invariant.1) (length (counts_of t)) (length-map t.links (λ c. c.times) ∙ t.all);
    }
