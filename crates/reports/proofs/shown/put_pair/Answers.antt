use Rattle.reports.proofs.Puts.{put_one, put_both}
use Rattle.reports.proofs.shown.put_pair.Goals as goal

pub returns : goal.returns
returns g c =
    let took = g.S.Sink.took in
    let o = c.args.out.now in
    let o1 = c.put_number.new.out in
    let o2 = c.put.new.self in
    let o3 = c.put_number-2.new.out in
    put_both took o o1 o3 _ _ (put_one took o o1 _ c.put_number.ensures)
    (put_both took o1 o2 o3 _ _ (put_one took o1 o2 _ c.put.ensures) (put_one took o2 o3 _ c.put_number-2.ensures))
