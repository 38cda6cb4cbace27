use Rattle.std.proofs.Common.{◌≡◌, ℕ, ◌≤◌, ◌++◌, length, codes, decimal, sym, ap, ◌∙◌, subst, arith}
use Rattle.networks.specs.Refusals.{name_of}
use Rattle.networks.specs.declared.refusals.Layer.{Layer}
use Rattle.networks.specs.declared.refusals.Layer.TheVariants.{Sheet, Network, Walk}
use Rattle.texts.specs.Lines.{line_bytes}
use Rattle.reports.proofs.Appending.{appended, twenty, after_six}
use Rattle.reports.proofs.lines.refused_line.Goals as goal

-- the name of a layer is short
short : (l : Layer) → length (name_of l) ≤ 7
short Sheet = omega arith
short Network = omega arith
short Walk = omega arith

pub returns : goal.returns
returns c =
    let number = c.args.report.number in
    let place = c.args.report.place in
    let name = c.as_bytes.result.now in
    let same : name ≡ name_of c.args.report.layer = c.as_bytes.ensures.value ∙ c.name.ensures in
    let l0 = line_bytes c.new-line.result in
    let l1 = line_bytes c.put.new.self in
    let l2 = line_bytes c.put_number.new.self in
    let l3 = line_bytes c.put-2.new.self in
    let l4 = line_bytes c.put_number-2.new.self in
    let l5 = line_bytes c.put-3.new.self in
    let l6 = line_bytes c.put-4.new.self in
    let e0 = c.new-line.ensures in
    let n0 : length l0 ≤ 0 = omega (arith, ap length e0) in
    let few : length name ≤ 7 = subst (λ (n : ℕ). n ≤ 7) (sym (ap length same)) (short c.args.report.layer) in
    let s1 = appended l0 (codes "refused ") l1 c.put.result 0 8 c.put.ensures.fits c.put.ensures.puts n0 (omega arith) (omega arith) in
    let s2 = appended l1 (decimal number) l2 c.put_number.result 8 20 c.put_number.ensures.fits c.put_number.ensures.puts s1.1 (twenty number (omega arith)) (omega arith) in
    let s3 = appended l2 (codes " at ") l3 c.put-2.result 28 4 c.put-2.ensures.fits c.put-2.ensures.puts s2.1 (omega arith) (omega arith) in
    let s4 = appended l3 (decimal place) l4 c.put_number-2.result 32 20 c.put_number-2.ensures.fits c.put_number-2.ensures.puts s3.1 (twenty place (omega arith)) (omega arith) in
    let s5 = appended l4 (codes " in ") l5 c.put-3.result 52 4 c.put-3.ensures.fits c.put-3.ensures.puts s4.1 (omega arith) (omega arith) in
    let s6 = appended l5 name l6 c.put-4.result 56 7 c.put-4.ensures.fits c.put-4.ensures.puts s5.1 few (omega arith) in
    after_six l0 l1 l2 l3 l4 l5 l6 (codes "refused ") (decimal number) (codes " at ") (decimal place) (codes " in ") name
    e0 s1.0 s2.0 s3.0 s4.0 s5.0 s6.0
    ∙ ap (λ end. codes "refused " ++ (decimal number ++ (codes " at " ++ (decimal place ++ (codes " in " ++ end))))) same
