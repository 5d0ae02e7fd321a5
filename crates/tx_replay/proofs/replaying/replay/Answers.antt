use Rattle.std.proofs.Common.{◌≡◌, ◌<◌, arith, length, sym, subst, take, ◌∙◌}
use Rattle.std.proofs.lemmas.List.{length-take-le, take_all}
use Rattle.report_form.specs.Text.{lines_of}
use Rattle.tx_flat.specs.Machine.{state_of}
use Rattle.tx_replay.specs.Replay.{IsReplayed}
use Rattle.tx_replay.proofs.Longer.{entries_few, line_read, none_replayed, one_replayed, misfit_found}
use Rattle.tx_replay.proofs.replaying.replay.Goals as goal

pub loop-k-init : goal.loop-k-init
loop-k-init c = record {
  at = c.start-place.ensures.line;
  place = c.start-place.ensures.place;
  replayed =
      none_replayed c.args.image.now (take c.args.count (lines_of c.args.text.now)) (state_of c.in_ok-flat.flat)
      c.cpu_count-cpus.result c.in_ok-ends.ends c.in_ok-flat.ensures.state c.cpu_count-cpus.ensures.count
      c.in_ok-ends.ensures;
  cpus = c.in_ok-flat.ensures.cpus;
}

pub count_end-requires : goal.count_end-requires
count_end-requires c =
    let lines = take c.args.count (lines_of c.args.text.now) in
    let many : length lines ≡ c.args.count = length-take-le c.args.count (lines_of c.args.text.now) c.requires in
    let before = c.loop-k.invariant.replayed in
    let size =
    entries_few c.args.image.now lines c.loop-k.k before.entries (state_of c.loop-k.flat) (omega (arith, many))
    before.replay in
    let fits = c.ranges.count.fits in
    record {
      few = (
        before.entries,
        length c.args.image.now.cpus,
        before.ended,
        omega (arith, size, fits),
      );
    }

pub loop-k-preserved : goal.loop-k-preserved
loop-k-preserved c =
    let lines = take c.args.count (lines_of c.args.text.now) in
    let many : length lines ≡ c.args.count = length-take-le c.args.count (lines_of c.args.text.now) c.requires in
    let next = c.in-Some.ensures.behind in
    let line = next.line in
    let there : c.loop-k.k < c.args.count = omega arith in
    record {
      at = omega (arith, line, c.loop-k.invariant.at);
      place = next.place;
      replayed =
          one_replayed c.args.image.now lines c.loop-k.k (state_of c.loop-k.flat)
          (state_of c.apply_line.new.flat) c.in-Ok.entry c.loop-k.ends c.count_end.new.ends
          (omega (arith, many, there)) c.loop-k.invariant.replayed
          c.in-Ok.ensures.sound
          (c.in-Ok.ensures.text
          ∙ sym (line_read c.args.text.now c.args.count c.loop-k.k c.loop-k.place.line c.in-Some.line.text.now there
          c.loop-k.invariant.at c.in-Some.ensures.some))
          c.in-Ok.ensures.applied (λ h. c.count_end.ensures h (length c.args.image.now.cpus));
      cpus = c.in-Ok.ensures.cpus ∙ c.loop-k.invariant.cpus;
    }

pub returns-in-Err-Misfit-clause-fault : goal.returns-in-Err-Misfit-clause-fault
returns-in-Err-Misfit-clause-fault c =
    let lines = take c.args.count (lines_of c.args.text.now) in
    let many : length lines ≡ c.args.count = length-take-le c.args.count (lines_of c.args.text.now) c.requires in
    let there : c.loop-k.k < c.args.count = omega arith in
    misfit_found c.args.image.now lines c.loop-k.k (state_of c.loop-k.flat) c.loop-k.ends c.in-Some.line.text.now
    (omega (arith, many, there)) c.loop-k.invariant.replayed
    (line_read c.args.text.now c.args.count c.loop-k.k c.loop-k.place.line c.in-Some.line.text.now there
    c.loop-k.invariant.at c.in-Some.ensures.some)
    (c.in-Err-Misfit.ensures.misfit cc)

pub returns-clause-replayed : goal.returns-clause-replayed
returns-clause-replayed c =
    let lines = take c.args.count (lines_of c.args.text.now) in
    let many : length lines ≡ c.args.count = length-take-le c.args.count (lines_of c.args.text.now) c.requires in
    let all : c.loop-k.k ≡ c.args.count = omega arith in
    subst (λ ls. IsReplayed c.args.image.now ls (state_of c.loop-k.flat) c.loop-k.ends)
    (take_all c.loop-k.k lines (omega (arith, many, all))) c.loop-k.invariant.replayed
