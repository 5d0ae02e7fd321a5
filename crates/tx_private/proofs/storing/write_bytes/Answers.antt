use Rattle.std.proofs.Common.{ℕ, List, ◌≤◌, ◌+◌, ◌∙◌, length, get_or, ap, sym, subst}
use Rattle.z_regs.proofs.Writes.{write_step}
use Rattle.std.proofs.lemmas.List.{length-set}
use Rattle.tx_private.proofs.storing.write_bytes.Goals as goal

pub loop-k-preserved : goal.loop-k-preserved
loop-k-preserved c =
    let room = subst (λ n. c.args.address + length c.args.bytes.now ≤ n) (sym c.requires.size)
    c.requires.inside in
    record {
      stored = c.put.ensures
          ∙ write_step c.args.seen.now c.loop-k.seen c.args.bytes.now c.args.address c.loop-k.k
          c.loop-k-test.true room
          c.loop-k.invariant.stored;
      size = ap (λ (s : List ℕ). length s) c.put.ensures
          ∙ length-set c.loop-k.seen (c.args.address + c.loop-k.k) (get_or c.args.bytes.now c.loop-k.k 0)
          ∙ c.loop-k.invariant.size;
    }
