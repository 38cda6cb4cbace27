use Rattle.reports.proofs.Puts.{put_one, put_both}
use Rattle.reports.proofs.reporting.put_last.Goals as goal

pub returns : goal.returns
returns g c =
    let took = g.S.Sink.took in
    let o = c.args.out.now in
    let o1 = c.put.new.self in
    let o2 = c.put_number.new.out in
    let o3 = c.put-2.new.self in
    let o4 = c.put_each.new.out in
    let o5 = c.put-3.new.self in
    let o6 = c.put-4.new.self in
    put_both took o o1 o6 _ _ (put_one took o o1 _ c.put.ensures)
    (put_both took o1 o2 o6 _ _ (put_one took o1 o2 _ c.put_number.ensures)
    (put_both took o2 o3 o6 _ _ (put_one took o2 o3 _ c.put-2.ensures)
    (put_both took o3 o4 o6 _ _ c.put_each.ensures
    (put_both took o4 o5 o6 _ _ (put_one took o4 o5 _ c.put-3.ensures) (put_one took o5 o6 _ c.put-4.ensures)))))
