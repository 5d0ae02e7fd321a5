use Rattle.std.proofs.Common.{◌≡◌, ◌+◌, ◌*◌, ◌/◌, ◌%◌, ◌<◌, true, false}
use Rattle.std.proofs.Common.{length, get_or, Some, None}
use Rattle.std.proofs.Common.{sym, ap, ◌∙◌, arith}
use Rattle.std.proofs.lemmas.Bool.{cond-true, cond-false}
use Rattle.std.proofs.lemmas.List.{get_or_read}
use Rattle.slot_index.specs.Slots.{slot_in}
use Rattle.store_cache.specs.Sizes.{block_size}
use Rattle.store_cache.specs.Stores.{Stores}
use Rattle.store_cache.specs.Entries.{stores_of}
use Rattle.store_cache.proofs.Cells.{items_of-at, items_of-none}
use Rattle.store_cache.proofs.Kept.{shown, stores_of-now}
use Rattle.store_cache.proofs.cache.StoreCache.byte.Goals as goal

pub returns-in_err-slot : goal.returns-in_err-slot
returns-in_err-slot c =
    let now : stores_of c.args.self.now ≡ shown c.self.inside.index.keys c.self.inside.bytes.items
    c.self.inside.marks c.self.inside.values.items c.self.inside.value_marks =
    stores_of-now c.args.self.now c.self.inside.index.keys c.self.inside.bytes.items c.self.inside.marks
    c.self.inside.values.items c.self.inside.value_marks c.self.view_is in
    let none : slot_in c.self.inside.index.keys
    (c.args.address / block_size) ≡ None = sym c.slot_of.ensures.value ∙ c.in_err-slot.was in
    c.from_residual.ensures
    ∙ sym (ap (λ (s : Stores). s.overlay c.args.address) now
    ∙ items_of-none block_size c.self.inside.index.keys c.self.inside.bytes.items c.self.inside.marks
    c.args.address none)

pub returns-then-not-has : goal.returns-then-not-has
returns-then-not-has c =
    let now : stores_of c.args.self.now ≡ shown c.self.inside.index.keys c.self.inside.bytes.items
    c.self.inside.marks c.self.inside.values.items c.self.inside.value_marks =
    stores_of-now c.args.self.now c.self.inside.index.keys c.self.inside.bytes.items c.self.inside.marks
    c.self.inside.values.items c.self.inside.value_marks c.self.view_is in
    let found : slot_in c.self.inside.index.keys (c.args.address / block_size) ≡ Some
    c.in_ok-slot.slot = sym c.slot_of.ensures.value ∙ c.in_ok-slot.was in
    let cell = c.in_ok-slot.slot * block_size + c.args.address % block_size in
    let off : get_or c.self.inside.marks cell false ≡ false = sym c.has.ensures ∙ c.if-not-has.true in
    sym (ap (λ (s : Stores). s.overlay c.args.address) now
    ∙ items_of-at block_size c.self.inside.index.keys c.self.inside.bytes.items c.self.inside.marks
    c.args.address c.in_ok-slot.slot found
    ∙ cond-false (get_or c.self.inside.marks cell false) (Some (get_or c.self.inside.bytes.items cell 0))
    None off)

pub returns : goal.returns
returns c =
    let now : stores_of c.args.self.now ≡ shown c.self.inside.index.keys c.self.inside.bytes.items
    c.self.inside.marks c.self.inside.values.items c.self.inside.value_marks =
    stores_of-now c.args.self.now c.self.inside.index.keys c.self.inside.bytes.items c.self.inside.marks
    c.self.inside.values.items c.self.inside.value_marks c.self.view_is in
    let found : slot_in c.self.inside.index.keys (c.args.address / block_size) ≡ Some
    c.in_ok-slot.slot = sym c.slot_of.ensures.value ∙ c.in_ok-slot.was in
    let cell = c.in_ok-slot.slot * block_size + c.args.address % block_size in
    let on : get_or c.self.inside.marks cell false ≡ true = sym c.has.ensures ∙ c.if-not-has.false in
    let within : cell < length c.self.inside.bytes.items = omega
    (arith, c.in_ok-slot.ensures.within, c.self.invariant.most, c.self.invariant.byte_room) in
    ap Some (get_or_read c.self.inside.bytes.items cell c.index.result.now within c.index.ensures 0)
    ∙ sym (ap (λ (s : Stores). s.overlay c.args.address) now
    ∙ items_of-at block_size c.self.inside.index.keys c.self.inside.bytes.items c.self.inside.marks
    c.args.address c.in_ok-slot.slot found
    ∙ cond-true (get_or c.self.inside.marks cell false) (Some (get_or c.self.inside.bytes.items cell 0)) None
    on)
