-- The bytes and their marks are a run in the entry of their block.
use Rattle.std.proofs.Common.{◌≡◌, ◌+◌, ◌*◌, ◌/◌, ◌%◌, List, ℕ, length, get_or, refl, sym, ap, subst, ◌∙◌}
use Rattle.std.proofs.lemmas.List.{with_items_is}
use Rattle.store_cache.specs.Sizes.{block_size}
use Rattle.store_cache.specs.Overlay.{with_bytes}
use Rattle.store_cache.specs.Stores.{Stores, has_room}
use Rattle.store_cache.specs.Entries.{stores_of, IsKept}
use Rattle.store_cache.proofs.Kept.{Entered, shown, stores_of-is, stores_of-now, entry_left, entered}
use Rattle.store_cache.proofs.Runs.{IsRun, run_seen, run_kept}
use Rattle.store_cache.proofs.cache.StoreCache.store_bytes.Goals as goal
use Rattle.store_cache.proofs.cache.StoreCache.store_bytes.Goals.{After-insert_run}

pub slot_for-slot-requires-clause-room : goal.slot_for-slot-requires-clause-room
slot_for-slot-requires-clause-room c =
    entry_left c.self.inside.index c.self.inside.bytes.items c.self.inside.marks c.self.inside.values.items
    c.self.inside.value_marks (c.args.address / block_size) c.self.invariant
    (ap (λ (s : Stores). has_room s.overlay (c.args.address / block_size))
    (sym (stores_of-now c.args.self.now c.self.inside.index.keys c.self.inside.bytes.items c.self.inside.marks
    c.self.inside.values.items c.self.inside.value_marks c.self.view_is)) ∙ c.requires.room)

-- the block has an entry
in_entry : (c : After-insert_run) → Entered c.self.inside.index c.slot_for-slot.new.index c.self.inside.bytes.items
    c.self.inside.marks c.self.inside.values.items c.self.inside.value_marks (c.args.address / block_size)
in_entry c =
    entered c.self.inside.index c.slot_for-slot.new.index c.self.inside.bytes.items c.self.inside.marks
    c.self.inside.values.items c.self.inside.value_marks (c.args.address / block_size) c.self.invariant
    c.slot_for-slot.ensures.index

-- the bytes are copied and marked
copied : (c : After-insert_run) → IsRun c.self.inside.bytes.items c.self.inside.marks c.copy_into.new.others
    c.insert_run.new.self (c.slot_for-slot.result * block_size + c.args.address % block_size) c.args.bytes.now
copied c = record {
  bytes_are = c.copy_into.ensures.bytes;
  before = λ k lt. c.copy_into.ensures.before k lt ∙ ap (λ (bs : List ℕ). get_or bs k 0) c.deref_mut.ensures.value;
  behind = λ k le. c.copy_into.ensures.behind k le ∙ ap (λ (bs : List ℕ). get_or bs k 0) c.deref_mut.ensures.value;
  marks_are = c.insert_run.ensures.marks;
}

pub invariant_of-self : goal.invariant_of-self
invariant_of-self c =
    let same = with_items_is c.self.inside.bytes c.copy_into.new.others
    (c.copy_into.ensures.size ∙ c.deref_mut.ensures.len) in
    subst (λ (bytes : List ℕ). IsKept c.slot_for-slot.new.index bytes c.insert_run.new.self
    c.self.inside.values.items c.self.inside.value_marks) (sym same)
    (run_kept c.self.inside.index c.slot_for-slot.new.index c.self.inside.bytes.items c.self.inside.marks
    c.self.inside.values.items c.self.inside.value_marks c.args.address c.slot_for-slot.result
    (c.slot_for-slot.result * block_size + c.args.address % block_size) c.args.bytes.now c.self.invariant
    (in_entry c) c.slot_for-slot.ensures.slot refl c.requires.block c.requires.some c.copy_into.new.others
    c.insert_run.new.self (copied c) (c.copy_into.ensures.size ∙ ap length c.deref_mut.ensures.value)
    c.insert_run.ensures.size)

pub returns : goal.returns
returns c =
    let now : stores_of c.args.self.now ≡ shown c.self.inside.index.keys c.self.inside.bytes.items
    c.self.inside.marks c.self.inside.values.items c.self.inside.value_marks =
    stores_of-now c.args.self.now c.self.inside.index.keys c.self.inside.bytes.items c.self.inside.marks
    c.self.inside.values.items c.self.inside.value_marks c.self.view_is in
    let same = with_items_is c.self.inside.bytes c.copy_into.new.others
    (c.copy_into.ensures.size ∙ c.deref_mut.ensures.len) in
    let seen =
    run_seen c.self.inside.index c.slot_for-slot.new.index c.self.inside.bytes.items c.self.inside.marks
    c.self.inside.values.items c.self.inside.value_marks c.args.address c.slot_for-slot.result
    (c.slot_for-slot.result * block_size + c.args.address % block_size) c.args.bytes.now (in_entry c)
    c.slot_for-slot.ensures.slot refl c.requires.block c.copy_into.new.others c.insert_run.new.self (copied c) in
    stores_of-is c.slot_for-slot.new.index.keys _ c.insert_run.new.self c.self.inside.values.items
    c.self.inside.value_marks
    ∙ ap (λ (bytes : List ℕ). shown c.slot_for-slot.new.index.keys bytes c.insert_run.new.self
    c.self.inside.values.items c.self.inside.value_marks) same
    ∙ (λ i. record { overlay = seen i; lasting = (in_entry c).same_values i })
    ∙ ap (λ (s : Stores). record {
      overlay = with_bytes s.overlay c.args.address c.args.bytes.now;
      lasting = s.lasting;
    }) (sym now)
