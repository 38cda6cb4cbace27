use Rattle.std.proofs.Common.{◌≤◌, length, codes, decimal, ap, arith}
use Rattle.texts.specs.Lines.{line_bytes}
use Rattle.reports.proofs.Appending.{appended, twenty, after_four}
use Rattle.reports.proofs.lines.sound_line.Goals as goal

pub returns : goal.returns
returns c =
    let l1 = line_bytes c.put.new.self in
    let l2 = line_bytes c.put_number.new.self in
    let l3 = line_bytes c.put-2.new.self in
    let l4 = line_bytes c.put_number-2.new.self in
    let e0 = c.new-line.ensures in
    let n0 : length (line_bytes c.new-line.result) ≤ 0 = omega (arith, ap length e0) in
    let s1 = appended (line_bytes c.new-line.result) (codes "sites ") l1 c.put.result 0 6 c.put.ensures.fits c.put.ensures.puts n0 (omega arith) (omega arith) in
    let s2 = appended l1 (decimal c.args.counts.sites) l2 c.put_number.result 6 20 c.put_number.ensures.fits c.put_number.ensures.puts s1.1 (twenty c.args.counts.sites (omega arith)) (omega arith) in
    let s3 = appended l2 (codes " links ") l3 c.put-2.result 26 7 c.put-2.ensures.fits c.put-2.ensures.puts s2.1 (omega arith) (omega arith) in
    let s4 = appended l3 (decimal c.args.counts.links) l4 c.put_number-2.result 33 20 c.put_number-2.ensures.fits c.put_number-2.ensures.puts s3.1 (twenty c.args.counts.links (omega arith)) (omega arith) in
    after_four (line_bytes c.new-line.result) l1 l2 l3 l4 (codes "sites ") (decimal c.args.counts.sites) (codes " links ") (decimal c.args.counts.links)
    e0 s1.0 s2.0 s3.0 s4.0
