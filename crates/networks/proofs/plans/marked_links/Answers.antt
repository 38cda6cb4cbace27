use Rattle.std.proofs.Common.{◌≡◌, length, sym, refl, ap, ◌∙◌, arith}
use Rattle.std.proofs.lemmas.List.{length-set, get_or-map}
use Rattle.std.proofs.lemmas.Bool.{lt-ltb}
use Rattle.cheapest.specs.Places.{no_link}
use Rattle.networks.specs.Links.{open_below}
use Rattle.networks.specs.declared.links.Link.{Link}
use Rattle.networks.proofs.Filled.{filled_none, filled_more}
use Rattle.networks.proofs.MarkedLinks.{same_link, marked, lighter, marked_from, marked_to, marked_mark, marked_usable}
use Rattle.networks.proofs.plans.marked_links.Goals as goal

pub loop-number-init : goal.loop-number-init
loop-number-init g c =
    let k = g.K.WeightKind in
    (refl, filled_none no_link (marked k.weighing c.args.links.now c.args.closed.now) 512)

pub loop-number-preserved : goal.loop-number-preserved
loop-number-preserved g c =
    let k = g.K.WeightKind in
    let links = c.args.links.now in
    let closed = c.args.closed.now in
    let e = c.loop-number.number in
    let t = c.loop-number-test.true in
    let link = c.index-links-number.result in
    let made = c.marked_link.ensures in
    let here = lt-ltb e (length links) t in
    let open_e : c.is_open.result ≡ open_below closed (length links) e = (let h = c.is_open.ensures in rw here h) in (
      length-set c.loop-number.places e c.marked_link.result ∙ c.loop-number.invariant.0,
      filled_more no_link (marked k.weighing links closed) c.loop-number.places e c.marked_link.result (let p = c.requires in let w = c.loop-number.invariant.0 in omega arith)
          (same_link (made.start ∙ ap (λ (x : Link g.row.K.Denot). x.from) c.index-links-number.is ∙ sym (get_or-map (λ x. x.from) links e link 0 t))
          (made.end ∙ ap (λ (x : Link g.row.K.Denot). x.to) c.index-links-number.is ∙ sym (get_or-map (λ x. x.to) links e link 0 t))
          (made.mark ∙ lighter k.weighing links link e c.index-links-number.is t) (made.chosen ∙ open_e))
          c.loop-number.invariant.1,
    )

pub returns : goal.returns
returns g c =
    let k = g.K.WeightKind in
    let links = c.args.links.now in
    let closed = c.args.closed.now in
    let places = c.loop-number.places in
    let all = c.loop-number.invariant.1 in
    let ends : c.loop-number.number ≡ length links = (let t = c.loop-number-test.false in let a = c.loop-number.auto.number-end in omega arith) in
    record {
      len = c.loop-number.invariant.0;
      starts = marked_from k.weighing links closed places all ends;
      ends = marked_to k.weighing links closed places all ends;
      marks = marked_mark k.weighing links closed places all ends;
      opens = marked_usable k.weighing links closed places all ends;
    }
