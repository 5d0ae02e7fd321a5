use Rattle.std.proofs.Common.{◌≡◌, ◌*◌, ◌/◌, ◌%◌, ◌+◌, ◌-◌, ◌≤◌, List, ℕ, length, take, drop, Some, ap, sym, ◌∙◌}
use Rattle.std.proofs.Common.{arith}
use Rattle.slot_index.specs.Slots.{slot_in}
use Rattle.z_regs.specs.Written.{range_at, written}
use Rattle.store_cache.specs.Sizes.{block_size}
use Rattle.store_cache.specs.Overlay.{Overlay, bytes_through}
use Rattle.store_cache.specs.Entries.{items_of}
use Rattle.store_cache.proofs.Overlays.{bytes_through-nothing, bytes_through-with_bytes, length-bytes_through}
use Rattle.store_cache.proofs.Laid.{none_below, run_below, all_below, some_run}
use Rattle.z_regs.proofs.OneArea.{length-range_at}
use Rattle.store_cache.proofs.laying.lay_bytes.Goals as goal

pub loop-cell-init : goal.loop-cell-init
loop-cell-init g c =
    let base = g.V.Bytes.bytes c.args.into.now in
    record {
      laid = sym (ap (λ (o : Overlay). bytes_through o base)
          (none_below block_size c.args.index.now.keys c.args.bytes.now c.args.marks.now)
          ∙ bytes_through-nothing base);
      size = c.requires.storage;
    }

pub loop-cell-preserved : goal.loop-cell-preserved
loop-cell-preserved g c =
    let base = g.V.Bytes.bytes c.args.into.now in
    let keys = c.args.index.now.keys in
    let cell = c.in-Some.cell in
    let count = c.run_from-count.result in
    let some : 1 ≤ count =
    some_run c.args.marks.now cell count c.in-Some.ensures.found.marked c.run_from-count.ensures.end in
    let address = c.key_at.result * block_size + cell % block_size in
    let block : address / block_size ≡ c.key_at.result = omega arith in
    let found : slot_in keys (address / block_size) ≡ Some (cell / block_size) = ap (slot_in keys) block
    ∙ c.key_at.ensures.slot in
    let inside : cell + count ≤ c.count-end.result * block_size =
    omega (arith, c.in-Some.ensures.found.below, c.run_from-count.ensures.word) in
    let room : cell + count ≤ length c.args.bytes.now = omega (arith, inside) in
    let stored : List ℕ = range_at c.args.bytes.now cell count in
    let size : length stored ≡ count = length-range_at c.args.bytes.now cell count room in
    let before : Overlay = items_of block_size keys c.args.bytes.now (take c.loop-cell.from c.args.marks.now)
    in
    let step = run_below keys c.args.bytes.now c.args.marks.now c.loop-cell.from
    (c.count-end.result * block_size) cell count address (cell / block_size) c.in-Some.ensures.found
    c.run_from-count.ensures.run room found (omega arith) (omega (arith, c.run_from-count.ensures.word)) in
    let piece : take (cell + count - cell) (drop cell c.args.bytes.now) ≡ stored =
    ap (λ n. take n (drop cell c.args.bytes.now)) (omega arith) in
    let laid : g.V.Bytes.bytes c.lay_run.new.into ≡ bytes_through
    (items_of block_size keys c.args.bytes.now (take (cell + count) c.args.marks.now)) base
    =
    c.lay_run.ensures
    ∙ ap (written (g.V.Bytes.bytes c.loop-cell.into) address) piece
    ∙ ap (λ (now : List ℕ). written now address stored) c.loop-cell.invariant.laid
    ∙ sym (bytes_through-with_bytes before base address stored (omega (arith, size)))
    ∙ ap (λ (o : Overlay). bytes_through o base) (sym step) in
    record {
      laid = laid;
      size = ap length laid ∙ length-bytes_through
          (items_of block_size keys c.args.bytes.now (take (cell + count) c.args.marks.now))
          base ∙ c.requires.storage;
    }

pub returns : goal.returns
returns g c =
    let base = g.V.Bytes.bytes c.args.into.now in
    c.loop-cell.invariant.laid
    ∙ ap (λ (o : Overlay). bytes_through o base)
    (all_below block_size (omega arith) c.args.index.now.keys c.args.bytes.now c.args.marks.now
    c.loop-cell.from (c.count-end.result * block_size)
    (ap (λ n. n * block_size) c.count-end.ensures.value) c.in_default.ensures.none)
