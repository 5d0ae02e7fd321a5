use Rattle.std.proofs.Common.{rules}
use Rattle.std.proofs.Math.Seq.{take-add}
use Rattle.std.proofs.lemmas.List.{take_rest}
use Rattle.std.proofs.KnownBytes.{Appends-trans}
use Rattle.ztx_io.proofs.whole.write_all.Goals as goal

pub loop-sent-preserved : goal.loop-sent-preserved
loop-sent-preserved g c =
    let bytes = c.args.bytes.now in
    let next = rw (take_rest bytes c.loop-sent.sent) at c.in-Took.ensures.step.1 in record {
      within = search rules;
      appended =
          rw (take-add c.loop-sent.sent c.in-Took.n bytes)
          (Appends-trans _ _ _ _ _ c.loop-sent.invariant.appended next);
      count = search rules;
    }
