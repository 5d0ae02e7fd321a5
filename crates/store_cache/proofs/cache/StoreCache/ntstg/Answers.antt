-- The bytes of the doubleword are a run in the entry of their block, which keeps the value too.
use Rattle.std.proofs.Common.{◌≡◌, ◌+◌, ◌*◌, ◌/◌, ◌%◌, ◌<◌, ◌≤◌, false, Bool, List, ℕ, length, get_or, set, Some, refl, sym, ap}
use Rattle.std.proofs.Common.{subst, ◌∙◌, arith}
use Rattle.std.specs.Prelude.{◌||◌}
use Rattle.std.proofs.lemmas.List.{with_items_is}
use Rattle.bit_set.specs.Bits.{lies_in}
use Rattle.slot_index.specs.Slots.{slot_in}
use Rattle.store_cache.specs.Sizes.{block_size, block_doublewords}
use Rattle.store_cache.specs.Overlay.{Overlay, with_bytes, with_one}
use Rattle.store_cache.specs.Stores.{Stores, has_room}
use Rattle.store_cache.specs.Entries.{stores_of, IsKept}
use Rattle.store_cache.proofs.Kept.{Entered, shown, stores_of-is, stores_of-now, entry_left, entered, value_shown, value_kept}
use Rattle.store_cache.proofs.Runs.{IsRun, run_seen, run_kept}
use Rattle.store_cache.proofs.cache.StoreCache.ntstg.Goals as goal

pub slot_for-slot-requires-clause-room : goal.slot_for-slot-requires-clause-room
slot_for-slot-requires-clause-room c =
    entry_left c.self.inside.index c.self.inside.bytes.items c.self.inside.marks c.self.inside.values.items
    c.self.inside.value_marks (c.args.address / block_size) c.self.invariant
    (ap (λ (s : Stores). has_room s.overlay (c.args.address / block_size))
    (sym (stores_of-now c.args.self.now c.self.inside.index.keys c.self.inside.bytes.items c.self.inside.marks
    c.self.inside.values.items c.self.inside.value_marks c.self.view_is)) ∙ c.requires.room)

pub copy_into-requires : goal.copy_into-requires
copy_into-requires c =
    omega (
      arith,
      ap length c.write_u64.ensures,
      ap length c.deref_mut.ensures.value,
      c.self.invariant.byte_room,
      c.self.invariant.most,
      c.slot_for-slot.ensures.within,
      c.requires.boundary,
    )

module _ (c : goal.After-insert) where
  abbrev bytes : List ℕ
  bytes = c.write_u64.new.buf

  abbrev slot : ℕ
  slot = c.slot_for-slot.result

  abbrev cell : ℕ
  cell = slot * block_size + c.args.address % block_size

  size : length bytes ≡ 8
  size = ap length c.write_u64.ensures

  some : 0 < length bytes
  some = omega (arith, size)

  fits : c.args.address % block_size + length bytes ≤ block_size
  fits = omega (arith, size, c.requires.boundary)

  -- the block has an entry
  in_entry : Entered c.self.inside.index c.slot_for-slot.new.index c.self.inside.bytes.items c.self.inside.marks
      c.self.inside.values.items c.self.inside.value_marks (c.args.address / block_size)
  in_entry =
      entered c.self.inside.index c.slot_for-slot.new.index c.self.inside.bytes.items c.self.inside.marks
      c.self.inside.values.items c.self.inside.value_marks (c.args.address / block_size) c.self.invariant
      c.slot_for-slot.ensures.index

  -- the bytes are copied and marked
  copied : IsRun c.self.inside.bytes.items c.self.inside.marks c.copy_into.new.others c.insert_in_word.new.self cell bytes
  copied = record {
    bytes_are = c.copy_into.ensures.bytes;
    before = λ k lt. c.copy_into.ensures.before k lt ∙ ap (λ (bs : List ℕ). get_or bs k 0) c.deref_mut.ensures.value;
    behind = λ k le. c.copy_into.ensures.behind k le ∙ ap (λ (bs : List ℕ). get_or bs k 0) c.deref_mut.ensures.value;
    marks_are = λ k. c.insert_in_word.ensures.marks k
        ∙ ap (λ n. get_or c.self.inside.marks k false || lies_in cell (cell + n) k) (sym size);
  }

  -- the doubleword stands in the entry as its bytes do
  found : slot_in c.slot_for-slot.new.index.keys (c.args.address / 8 / block_doublewords) ≡ Some slot
  found =
      let block : c.args.address / 8 / block_doublewords ≡ c.args.address / block_size = omega arith in
      ap (slot_in c.slot_for-slot.new.index.keys) block ∙ c.slot_for-slot.ensures.slot

  there : cell / 8 ≡ slot * block_doublewords + c.args.address / 8 % block_doublewords
  there = omega arith

  run : IsKept c.slot_for-slot.new.index c.copy_into.new.others c.insert_in_word.new.self c.self.inside.values.items
      c.self.inside.value_marks
  run =
      run_kept c.self.inside.index c.slot_for-slot.new.index c.self.inside.bytes.items c.self.inside.marks
      c.self.inside.values.items c.self.inside.value_marks c.args.address slot cell bytes c.self.invariant in_entry
      c.slot_for-slot.ensures.slot refl fits some c.copy_into.new.others c.insert_in_word.new.self copied
      (c.copy_into.ensures.size ∙ ap length c.deref_mut.ensures.value) c.insert_in_word.ensures.size

pub invariant_of-self : goal.invariant_of-self
invariant_of-self c =
    let same = with_items_is c.self.inside.bytes c.copy_into.new.others
    (c.copy_into.ensures.size ∙ c.deref_mut.ensures.len) in
    let values = set c.self.inside.values.items (cell c / 8) c.args.value in
    subst (λ (bytes : List ℕ). IsKept c.slot_for-slot.new.index bytes c.insert_in_word.new.self values c.insert.new.self)
    (sym same)
    (subst (λ (marks : List Bool). IsKept c.slot_for-slot.new.index c.copy_into.new.others c.insert_in_word.new.self
    values marks) (sym c.insert.ensures)
    (value_kept c.slot_for-slot.new.index c.copy_into.new.others c.insert_in_word.new.self c.self.inside.values.items
    c.self.inside.value_marks (c.args.address / 8) (slot c) (cell c / 8) c.args.value (run c) (found c) (there c)))

pub returns : goal.returns
returns c =
    let keys = c.slot_for-slot.new.index.keys in
    let now : stores_of c.args.self.now ≡ shown c.self.inside.index.keys c.self.inside.bytes.items
    c.self.inside.marks c.self.inside.values.items c.self.inside.value_marks =
    stores_of-now c.args.self.now c.self.inside.index.keys c.self.inside.bytes.items c.self.inside.marks
    c.self.inside.values.items c.self.inside.value_marks c.self.view_is in
    let same = with_items_is c.self.inside.bytes c.copy_into.new.others
    (c.copy_into.ensures.size ∙ c.deref_mut.ensures.len) in
    let values = set c.self.inside.values.items (cell c / 8) c.args.value in
    let seen =
    run_seen c.self.inside.index c.slot_for-slot.new.index c.self.inside.bytes.items c.self.inside.marks
    c.self.inside.values.items c.self.inside.value_marks c.args.address (slot c) (cell c) (bytes c) (in_entry c)
    c.slot_for-slot.ensures.slot refl (fits c) c.copy_into.new.others c.insert_in_word.new.self (copied c) in
    let lasts =
    value_shown c.slot_for-slot.new.index c.copy_into.new.others c.insert_in_word.new.self c.self.inside.values.items
    c.self.inside.value_marks (c.args.address / 8) (slot c) (cell c / 8) c.args.value (run c) (found c) (there c)
    (omega (arith, c.slot_for-slot.ensures.within, c.self.invariant.most))
    ∙ ap (λ (o : Overlay). with_one o (c.args.address / 8) c.args.value) (in_entry c).same_values in
    stores_of-is keys _ c.insert_in_word.new.self values c.insert.new.self
    ∙ ap (λ (bytes : List ℕ). shown keys bytes c.insert_in_word.new.self values c.insert.new.self) same
    ∙ ap (λ (marks : List Bool). shown keys c.copy_into.new.others c.insert_in_word.new.self values marks)
    c.insert.ensures
    ∙ (λ i. record { overlay = seen i; lasting = lasts i })
    ∙ ap (λ (s : Stores). record {
      overlay = with_bytes s.overlay c.args.address (bytes c);
      lasting = with_one s.lasting (c.args.address / 8) c.args.value;
    }) (sym now)
    ∙ ap (λ (bs : List ℕ). record {
      overlay = with_bytes (stores_of c.args.self.now).overlay c.args.address bs;
      lasting = with_one (stores_of c.args.self.now).lasting (c.args.address / 8) c.args.value;
    }) c.write_u64.ensures
