use Rattle.std.proofs.Common.{◌≡◌, ◌*◌, ◌/◌, ◌%◌, ◌+◌, List, ℕ, length, take, get_or, Some, ap, sym, ◌∙◌}
use Rattle.std.proofs.Common.{arith}
use Rattle.slot_index.specs.Slots.{slot_in}
use Rattle.store_cache.specs.Sizes.{block_doublewords}
use Rattle.byteorder.specs.Endian.{big_bytes}
use Rattle.z_regs.specs.Written.{written}
use Rattle.store_cache.specs.Overlay.{Overlay, bytes_through}
use Rattle.store_cache.specs.Stores.{lasting_bytes}
use Rattle.store_cache.specs.Entries.{items_of}
use Rattle.store_cache.proofs.Overlays.{bytes_through-nothing, bytes_through-with_bytes, length-bytes_through, lasting_bytes-nothing}
use Rattle.store_cache.proofs.Overlays.{lasting_bytes-with_one}
use Rattle.store_cache.proofs.Laid.{none_below, one_below, all_below}
use Rattle.store_cache.proofs.laying.lay_values.Goals as goal

pub loop-cell-init : goal.loop-cell-init
loop-cell-init g c =
    let base = g.V.Bytes.bytes c.args.into.now in
    record {
      laid = sym (
          ap (λ (o : Overlay). bytes_through (lasting_bytes o) base)
          (none_below block_doublewords c.args.index.now.keys c.args.values.now c.args.marks.now)
          ∙ ap (λ (o : Overlay). bytes_through o base) lasting_bytes-nothing
          ∙ bytes_through-nothing base);
      size = c.requires.storage;
    }

pub loop-cell-preserved : goal.loop-cell-preserved
loop-cell-preserved g c =
    let base = g.V.Bytes.bytes c.args.into.now in
    let keys = c.args.index.now.keys in
    let cell = c.in-Some.cell in
    let value = get_or c.args.values.now cell 0 in
    let doubleword = c.key_at-block.result * block_doublewords + cell % block_doublewords in
    let block : doubleword / block_doublewords ≡ c.key_at-block.result = omega arith in
    let found : slot_in keys (doubleword / block_doublewords) ≡ Some (cell / block_doublewords) = ap (slot_in keys) block
    ∙ c.key_at-block.ensures.slot in
    let before : Overlay = items_of block_doublewords keys c.args.values.now
    (take c.loop-cell.from c.args.marks.now) in
    let step = one_below block_doublewords (omega arith) keys c.args.values.now c.args.marks.now c.loop-cell.from
    (c.count-end.result * block_doublewords) cell doubleword (cell / block_doublewords) c.in-Some.ensures.found found
    (omega arith) in
    let stored : List ℕ = big_bytes 8 value in
    let laid : g.V.Bytes.bytes c.put_word.new.self ≡ bytes_through
    (lasting_bytes (items_of block_doublewords keys c.args.values.now (take (cell + 1) c.args.marks.now))) base
    =
    c.put_word.ensures
    ∙ ap (λ (now : List ℕ). written now (doubleword * 8) stored) c.loop-cell.invariant.laid
    ∙ sym (bytes_through-with_bytes (lasting_bytes before) base (doubleword * 8) stored (omega arith))
    ∙ ap (λ (o : Overlay). bytes_through o base) (sym (lasting_bytes-with_one before doubleword value))
    ∙ ap (λ (o : Overlay). bytes_through (lasting_bytes o) base) (sym step) in
    record {
      laid = laid;
      size = ap length laid ∙ length-bytes_through
          (lasting_bytes (items_of block_doublewords keys c.args.values.now (take (cell + 1) c.args.marks.now)))
          base ∙ c.requires.storage;
    }

pub returns : goal.returns
returns g c =
    let base = g.V.Bytes.bytes c.args.into.now in
    c.loop-cell.invariant.laid
    ∙ ap (λ (o : Overlay). bytes_through (lasting_bytes o) base)
    (all_below block_doublewords (omega arith) c.args.index.now.keys c.args.values.now c.args.marks.now
    c.loop-cell.from (c.count-end.result * block_doublewords)
    (ap (λ n. n * block_doublewords) c.count-end.ensures.value) c.in_default.ensures.none)
