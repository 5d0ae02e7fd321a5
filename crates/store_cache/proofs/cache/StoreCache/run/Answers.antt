-- A run of bytes in the entry of a block is what was stored last there.
use Rattle.std.proofs.Common.{◌≡◌, ℕ, ◌+◌, ◌-◌, ◌*◌, ◌/◌, ◌%◌, ◌<◌, Bool, true, false, cond, List, get_or, take, drop}
use Rattle.std.proofs.Common.{Some, None, refl, sym, ap, ◌∙◌, arith}
use Rattle.std.specs.Prelude.{is_some}
use Rattle.std.proofs.lemmas.Bool.{cond-true, true≢false}
use Rattle.slot_index.specs.Slots.{slot_in}
use Rattle.z_regs.proofs.OneArea.{in_range}
use Rattle.store_cache.specs.Sizes.{block_size}
use Rattle.store_cache.specs.Stores.{Stores}
use Rattle.store_cache.specs.Entries.{items_of, stores_of}
use Rattle.store_cache.proofs.Cells.{item_in, items_of-at, items_of-none}
use Rattle.store_cache.proofs.Kept.{shown, stores_of-now}
use Rattle.store_cache.proofs.cache.StoreCache.run.Goals as goal

-- the byte so far behind another one of its block is as far behind it in the entry
in-entry : (blocks bytes : List ℕ) (marks : List Bool) (address slot k : ℕ)
    → slot_in blocks (address / block_size) ≡ Some slot → address % block_size + k < block_size
    → items_of block_size blocks bytes marks (address + k)
    ≡ item_in bytes marks (slot * block_size + address % block_size + k)
in-entry blocks bytes marks address slot k found within =
    let block : (address + k) / block_size ≡ address / block_size = omega (arith, within) in
    let cell : slot * block_size + (address + k) % block_size ≡ slot * block_size + address % block_size + k =
    omega (arith, within) in
    items_of-at block_size blocks bytes marks (address + k) slot (ap (slot_in blocks) block ∙ found)
    ∙ ap (item_in bytes marks) cell

marked : (b : Bool) (n : ℕ) → is_some (cond b (Some n) None) ≡ true → b ≡ true
marked true n some = refl
marked false n some = some

pub returns-in_err-slot-clause-none : goal.returns-in_err-slot-clause-none
returns-in_err-slot-clause-none c =
    rw c.from_residual.ensures (λ within all.
    let now : stores_of c.args.self.now ≡ shown c.self.inside.index.keys c.self.inside.bytes.items
    c.self.inside.marks c.self.inside.values.items c.self.inside.value_marks =
    stores_of-now c.args.self.now c.self.inside.index.keys c.self.inside.bytes.items c.self.inside.marks
    c.self.inside.values.items c.self.inside.value_marks c.self.view_is in
    let start : c.args.address + 0 ≡ c.args.address = omega arith in
    let none : slot_in c.self.inside.index.keys ((c.args.address + 0) / block_size) ≡ None =
    ap (λ a. slot_in c.self.inside.index.keys (a / block_size)) start
    ∙ sym c.slot_of.ensures.value ∙ c.in_err-slot.was in
    true≢false (sym (all 0 c.requires)
    ∙ ap (λ (s : Stores). is_some (s.overlay (c.args.address + 0))) now
    ∙ ap is_some (items_of-none block_size c.self.inside.index.keys c.self.inside.bytes.items c.self.inside.marks
    (c.args.address + 0) none)))

pub returns-then-not-has_run-clause-none : goal.returns-then-not-has_run-clause-none
returns-then-not-has_run-clause-none c within all =
    let bytes = c.self.inside.bytes.items in
    let marks = c.self.inside.marks in
    let cell = c.in_ok-slot.slot * block_size + c.args.address % block_size in
    let now : stores_of c.args.self.now ≡ shown c.self.inside.index.keys bytes marks c.self.inside.values.items
    c.self.inside.value_marks =
    stores_of-now c.args.self.now c.self.inside.index.keys bytes marks c.self.inside.values.items
    c.self.inside.value_marks c.self.view_is in
    let found : slot_in c.self.inside.index.keys (c.args.address / block_size) ≡ Some c.in_ok-slot.slot =
    sym c.slot_of.ensures.value ∙ c.in_ok-slot.was in
    true≢false (sym (c.has_run.ensures.1 (λ j le lt.
    let k = j - cell in
    let there : cell + k ≡ j = omega (arith, le) in
    let near : k < c.args.count = omega (arith, le, lt) in
    ap (λ n. get_or marks n false) (sym there)
    ∙ marked (get_or marks (cell + k) false) (get_or bytes (cell + k) 0)
    (sym (ap (λ (s : Stores). is_some (s.overlay (c.args.address + k))) now
    ∙ ap is_some (in-entry c.self.inside.index.keys bytes marks c.args.address c.in_ok-slot.slot k found
    (omega (arith, within, near)))) ∙ all k near))) ∙ c.if-not-has_run.true)

pub returns-clause-bytes : goal.returns-clause-bytes
returns-clause-bytes c k lt =
    let bytes = c.self.inside.bytes.items in
    let marks = c.self.inside.marks in
    let cell = c.in_ok-slot.slot * block_size + c.args.address % block_size in
    let now : stores_of c.args.self.now ≡ shown c.self.inside.index.keys bytes marks c.self.inside.values.items
    c.self.inside.value_marks =
    stores_of-now c.args.self.now c.self.inside.index.keys bytes marks c.self.inside.values.items
    c.self.inside.value_marks c.self.view_is in
    let found : slot_in c.self.inside.index.keys (c.args.address / block_size) ≡ Some c.in_ok-slot.slot =
    sym c.slot_of.ensures.value ∙ c.in_ok-slot.was in
    let on : get_or marks (cell + k) false ≡ true =
    c.has_run.ensures.0 c.if-not-has_run.false (cell + k) (omega arith) (omega (arith, lt)) in
    let size : cell + c.args.count - cell ≡ c.args.count = omega arith in
    ap (λ (s : Stores). s.overlay (c.args.address + k)) now
    ∙ in-entry c.self.inside.index.keys bytes marks c.args.address c.in_ok-slot.slot k found
    (omega (arith, lt, c.if-count-address.false))
    ∙ cond-true (get_or marks (cell + k) false) (Some (get_or bytes (cell + k) 0)) None on
    ∙ ap Some (sym (in_range bytes cell c.args.count k lt)
    ∙ (λ j. get_or (take (sym size j) (drop cell (sym c.deref.ensures.value j))) k 0))
