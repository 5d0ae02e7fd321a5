-- The marked values below the place are laid.
use Rattle.std.proofs.Common.{◌≡◌, ◌-◌, take, length}
use Rattle.z_regs.specs.Prefix.{storage_size}
use Rattle.store_cache.specs.Sizes.{block_doublewords}
use Rattle.store_cache.specs.Overlay.{bytes_through}
use Rattle.store_cache.specs.Stores.{lasting_bytes}
use Rattle.store_cache.specs.Entries.{items_of}
use Rattle.store_cache.proofs.laying.lay_values.Given as goal

abbrev pub invariant-loop-cell : goal.invariant-loop-cell
invariant-loop-cell g l =
    record {
      laid : g.V.Bytes.bytes l.into ≡ bytes_through
          (lasting_bytes (items_of block_doublewords l.index.keys l.values (take l.from l.marks)))
          (g.V.Bytes.bytes l.initial.into);
      size : length (g.V.Bytes.bytes l.into) ≡ storage_size;
    }

abbrev pub decreases-loop-cell : goal.decreases-loop-cell
decreases-loop-cell g l = l.end - l.from
