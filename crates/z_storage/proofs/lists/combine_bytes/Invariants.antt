use Rattle.std.proofs.Common.{◌≡◌, length, nat_eq}
use Rattle.std.specs.List.{list_all}
use Rattle.z_effect.specs.After.{written}
use Rattle.z_storage.proofs.Bytewise.{made}
use Rattle.z_regs.specs.Prefix.{storage_size}
use Rattle.z_storage.proofs.lists.combine_bytes.Given as goal

abbrev pub invariant-loop-k : goal.invariant-loop-k
invariant-loop-k g l =
    let s = g.V.Bytes.bytes l.initial.view in
    record {
      so_far : g.V.Bytes.bytes l.view ≡
          written s l.target (made l.combination s l.target l.source l.count l.k);
      zero : l.zero ≡ list_all (λ b. nat_eq b 0) (made l.combination s l.target l.source l.count l.k);
      length : length (g.V.Bytes.bytes l.view) ≡ storage_size;
    }
