use Rattle.std.proofs.Common.{◌≡◌, ◌∙◌, ◌<◌, ap, sym, subst, arith, ℕ, List, [], ◌∷◌, length, length-append, Some}
use Rattle.std.specs.Prelude.{slice_get}
use Rattle.tx_journal.specs.declared.entries.Entry.{Entry}
use Rattle.tx_flat.specs.Machine.{state_of}
use Rattle.tx_replay.specs.Ends.{AreEnds}
use Rattle.tx_check.specs.declared.writing.Seen.{Seen}
use Rattle.tx_check.specs.Claims.{claim_of, counts_of}
use Rattle.tx_check.specs.Lines.{lines_of}
use Rattle.tx_check.specs.Told.{IsTold}
use Rattle.tx_check.specs.Sound.{IsTaken, cpu_place}
use Rattle.tx_check.specs.Seen.{shown_seen}
use Rattle.tx_check.proofs.CpuLines.{each_more}
use Rattle.tx_check.proofs.telling.seen_cpus.Goals as goal

pub loop-cpu-preserved : goal.loop-cpu-preserved
loop-cpu-preserved c =
    let f = state_of c.args.replayed.now.flat in
    let cpus = length c.args.image.now.cpus in
    let items = c.loop-cpu.seen.items in
    let one = c.in_ok-one.one in
    let claimed = c.claims_of-claimed.result in
    let size : length items ≡ c.loop-cpu.cpu = c.loop-cpu.invariant.count in
    let known : c.loop-cpu.cpu < cpus = omega (arith, c.loop-cpu-test.true, c.cpu_count-cpu-end.ensures.count) in
    let told : (history : List Entry) → AreEnds history cpus c.args.replayed.now.ends
    → IsTold f history c.loop-cpu.cpu (shown_seen one) = λ history ends.
    c.in_ok-one.ensures.told history
    (c.ended-ended.ensures.commits ∙ ends.commits.each c.loop-cpu.cpu known)
    (c.ended-ended.ensures.aborts ∙ ends.aborts.each c.loop-cpu.cpu known) in
    let taken : IsTaken (lines_of c.args.report.now) (cpu_place c.loop-cpu.cpu) f c.loop-cpu.cpu (shown_seen one) =
    record {
      claim = claim_of claimed.attempt;
      counts = counts_of claimed.counts;
      printed = c.claims_of-claimed.ensures;
      believed = c.in_ok-one.ensures.believes;
      turns = c.in_ok-one.ensures.turns;
      asked = c.in_ok-one.ensures.asked;
      rejected = c.in_ok-one.ensures.rejected;
    } in
    record {
      count =
          let e = ap length c.in_ok-add_seen.ensures in
          let l = length-append items (one ∷ []) in
          omega (arith, e, l, size);
      told = λ history ends.
          subst (λ xs. (i : ℕ) (s : Seen) → slice_get xs i ≡ Some s → IsTold f history i (shown_seen s))
          (sym c.in_ok-add_seen.ensures)
          (each_more (λ i s. IsTold f history i (shown_seen s)) items one (c.loop-cpu.invariant.told history ends)
          (subst (λ k. IsTold f history k (shown_seen one)) (sym size) (told history ends)));
      taken =
          subst (λ xs. (i : ℕ) (s : Seen) → slice_get xs i ≡ Some s
          → IsTaken (lines_of c.args.report.now) (cpu_place i) f i (shown_seen s))
          (sym c.in_ok-add_seen.ensures)
          (each_more (λ i s. IsTaken (lines_of c.args.report.now) (cpu_place i) f i (shown_seen s)) items one
          c.loop-cpu.invariant.taken
          (subst (λ k. IsTaken (lines_of c.args.report.now) (cpu_place k) f k (shown_seen one)) (sym size) taken));
    }
