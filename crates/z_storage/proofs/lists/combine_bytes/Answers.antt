use Rattle.std.proofs.Common.{arith, ◌∙◌, ◌+◌, ap, get_or, length, length-set}
use Rattle.z_storage.proofs.Bytewise.{stored_none, zero_none, made_of, stored_step, zero_step}
use Rattle.z_storage.proofs.lists.combine_bytes.Goals as goal

pub loop-k-init : goal.loop-k-init
loop-k-init g c =
    let s = g.V.Bytes.bytes c.args.view.now in
    record {
      so_far = stored_none c.args.combination s c.args.target c.args.source c.args.count;
      zero = zero_none c.args.combination s c.args.target c.args.source c.args.count;
      length = c.requires.size;
    }

pub loop-k-preserved : goal.loop-k-preserved
loop-k-preserved g c =
    let s = g.V.Bytes.bytes c.args.view.now in
    let now = g.V.Bytes.bytes c.loop-k.view in
    let first = get_or now (c.args.target + c.loop-k.k) 0 in
    let second = get_or now (c.args.source + c.loop-k.k) 0 in
    let byte = made_of c.args.combination c.get.result c.get-in-loop-k.result first second c.mix-byte.result
    c.mix-byte.ensures c.get.ensures c.get-in-loop-k.ensures in
    record {
      so_far = stored_step c.args.combination s now _ c.args.target c.args.source c.loop-k.k c.args.count _
          (omega arith) (omega arith) c.loop-k.invariant.so_far byte c.put.ensures;
      zero = zero_step c.args.combination s now c.args.target c.args.source c.loop-k.k c.args.count _ _
          (omega arith) (omega arith) c.loop-k.invariant.so_far byte c.loop-k.invariant.zero;
      length = ap length c.put.ensures ∙ length-set now _ _ ∙ c.loop-k.invariant.length;
    }
