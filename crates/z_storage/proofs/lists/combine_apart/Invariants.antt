use Rattle.std.proofs.Common.{◌≡◌, ◌*◌, length}
use Rattle.z_effect.specs.After.{written}
use Rattle.z_instr.specs.declared.kind.Combination.TheVariants.{Logic}
use Rattle.z_regs.specs.Prefix.{storage_size}
use Rattle.z_storage.proofs.Combined.{combined, all_zero}
use Rattle.z_storage.proofs.lists.combine_apart.Given as goal

abbrev pub invariant-loop-k : goal.invariant-loop-k
invariant-loop-k g l =
    let s = g.V.Bytes.bytes l.initial.view in
    record {
      so_far : g.V.Bytes.bytes l.view ≡ written s l.target (combined (Logic l.kind) s l.target l.source l.count (8 * l.k));
      zero : l.zero ≡ all_zero (combined (Logic l.kind) s l.target l.source l.count (8 * l.k));
      size : length (g.V.Bytes.bytes l.view) ≡ storage_size;
    }
