use Rattle.std.proofs.Common.{ℕ, ◌<◌, ◌≤◌, List, length, get_or, set, sym, ap, ◌∙◌, subst, arith}
use Rattle.std.proofs.lemmas.List.{length-set, map-set}
use Rattle.receivers.specs.Tallies.{counts_of, lasts_of, once_more}
use Rattle.receivers.proofs.Counting.{times_at, last_at, bounded_set, within_rows}
use Rattle.receivers.proofs.types.Tally.note.Goals as goal

pub invariant_of-self : goal.invariant_of-self
invariant_of-self c =
    let t = c.args.self.now in
    let link = c.args.link in
    let old = get_or t.links c.args.link (record { times = 0; last = 0 }) in
    let new = c.noted-count.result in
    let inside : c.args.link < length t.links = omega arith in
    let times = times_at t.links c.args.link inside in
    let last = last_at t.links c.args.link inside in
    let few : old.times ≤ t.rows = omega (arith, t.counted link, times) in
    let room : old.last < t.rows → old.times < t.rows = λ less. omega (arith, times, c.requires.room (omega (arith, last))) in
    record {
      all = length-set t.links link new ∙ t.all;
      counted =
          λ k. subst (λ (xs : List ℕ). get_or xs k 0 ≤ t.rows) (sym (map-set (λ c. c.times) t.links link new))
          (bounded_set (counts_of t) link new.times t.rows (within_rows old.last old.times new.times t.rows room few c.noted-count.ensures.times) t.counted k);
      past =
          λ k. subst (λ (xs : List ℕ). get_or xs k 0 ≤ t.rows) (sym (map-set (λ c. c.last) t.links link new))
          (bounded_set (lasts_of t) link new.last t.rows (omega (arith, c.noted-count.ensures.last)) t.past k);
    }

pub returns-clause-lasts : goal.returns-clause-lasts
returns-clause-lasts c =
    map-set (λ c. c.last) c.args.self.now.links c.args.link c.noted-count.result ∙ ap (λ x. set (lasts_of c.args.self.now) c.args.link x) c.noted-count.ensures.last

pub returns-clause-counts : goal.returns-clause-counts
returns-clause-counts c =
    let t = c.args.self.now in
    let link = c.args.link in
    let old = get_or t.links c.args.link (record { times = 0; last = 0 }) in
    let inside : c.args.link < length t.links = omega arith in
    map-set (λ c. c.times) t.links link c.noted-count.result
    ∙ ap (λ x. set (counts_of t) link x)
    (c.noted-count.ensures.times ∙ ap (λ x. once_more t.rows x old.times) (sym (last_at t.links c.args.link inside)) ∙ ap (λ x. once_more t.rows (get_or (lasts_of t) link 0) x) (sym (times_at t.links c.args.link inside)))
