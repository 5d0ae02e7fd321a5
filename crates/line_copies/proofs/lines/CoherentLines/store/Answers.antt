use Rattle.std.proofs.Common.{◌≡◌, ◌+◌, ◌*◌, ◌/◌, ◌%◌, ◌<◌, ℕ, List, ◌++◌, length, set, take, drop, is_some}
use Rattle.std.proofs.Common.{sym, ap, subst, ◌∙◌, arith}
use Rattle.std.specs.Option.{option_map}
use Rattle.std.proofs.lemmas.List.{length-set}
use Rattle.z_regs.specs.Written.{written}
use Rattle.line_table.specs.Holders.{mode_in}
use Rattle.l1_data.specs.Sizes.{line_size}
use Rattle.l1_data.specs.Copies.{Copies, Kept, with_copy, laid}
use Rattle.line_copies.specs.Seen.{IsKept, copied, seen_bytes}
use Rattle.line_copies.proofs.Flat.{holder_is}
use Rattle.line_copies.proofs.Shown.{copied_at, copied_set}
use Rattle.line_copies.proofs.Stored.{held_stored, all_stored, written_whole}
use Rattle.line_copies.proofs.lines.CoherentLines.store.Goals as goal

pub index_mut-requires : goal.index_mut-requires
index_mut-requires c =
    omega (
      arith,
      c.self.invariant.each,
      (holder_is c.self.inside.table.cpus (λ cpu. mode_in c.self.inside.table cpu (c.args.address /
          line_size))
          c.in-Some.holder (sym c.in-Some.ensures)).0,
    )

pub lay-requires-clause-there : goal.lay-requires-clause-there
lay-requires-clause-there c =
    let held = holder_is c.self.inside.table.cpus (λ cpu. mode_in c.self.inside.table cpu (c.args.address /
    line_size))
    c.in-Some.holder (sym c.in-Some.ensures) in
    ap (λ (k : Copies). is_some (k (c.args.address / line_size)))
    (copied_at c.self.inside.copies.items c.in-Some.holder c.index_mut.result.now
    (omega (arith, held.0, c.self.invariant.each)) c.index_mut.ensures.value)
    ∙ c.self.invariant.coherent.there c.in-Some.holder (c.args.address / line_size) held.0 ∙ ap is_some held.1

-- the line and the place in it are the address
whole : (a : ℕ) → a / line_size * line_size + a % line_size ≡ a
whole a = omega arith

in_holder : (c : goal.After-self-1) → IsKept c.self.inside.storage c.self.inside.table
    (set c.self.inside.copies.items c.in-Some.holder c.lay.new.self)
    × (seen_bytes c.self.inside.storage c.self.inside.table
    (set c.self.inside.copies.items c.in-Some.holder c.lay.new.self)
    ≡ written (seen_bytes c.self.inside.storage c.self.inside.table c.self.inside.copies.items)
    (c.args.address / line_size * line_size + c.args.address % line_size) c.args.bytes.now)
in_holder c =
    let line = c.args.address / line_size in
    let at = c.args.address % line_size in
    let bytes = c.args.bytes.now in
    let items = c.self.inside.copies.items in
    let held = holder_is c.self.inside.table.cpus (λ cpu. mode_in c.self.inside.table cpu line)
    c.in-Some.holder (sym c.in-Some.ensures) in
    let low : c.in-Some.holder < length items = omega (arith, held.0, c.self.invariant.each) in
    let was = copied_at items c.in-Some.holder c.index_mut.result.now low c.index_mut.ensures.value in
    held_stored c.self.inside.table items (set items c.in-Some.holder c.lay.new.self) c.self.inside.storage
    bytes
    c.in-Some.holder line at c.self.invariant (omega (arith, c.requires.inside)) (sym c.in-Some.ensures)
    c.requires.one_line (length-set items c.in-Some.holder c.lay.new.self)
    (copied_set items c.in-Some.holder line c.lay.new.self
    (option_map (λ b. laid b at bytes) (copied items c.in-Some.holder line)) low
    (c.lay.ensures
    ∙ ap (λ (k : Copies). with_copy k line (option_map (λ b. laid b at bytes) (k line))) was))

pub invariant_of-self : goal.invariant_of-self
invariant_of-self c = (in_holder c).0

pub returns-in-Some-clause-bytes : goal.returns-in-Some-clause-bytes
returns-in-Some-clause-bytes c =
    (in_holder c).1
    ∙ ap (λ a. written (seen_bytes c.self.inside.storage c.self.inside.table c.self.inside.copies.items) a
    c.args.bytes.now) (whole c.args.address)
    ∙ ap (λ v. written v.bytes c.args.address c.args.bytes.now) c.self.view_is

-- the copies go back into their place
back : (c : goal.After-self-in-None-1)
    → take c.self.inside.copies.len (c.lay_everywhere.new.copies ++ drop (length c.lay_everywhere.new.copies)
    c.self.inside.copies.items) ≡ c.lay_everywhere.new.copies
back c =
    written_whole c.self.inside.copies.len c.lay_everywhere.new.copies c.self.inside.copies.items
    (c.lay_everywhere.auto.copies ∙ ap length c.deref_mut.ensures.value)
    (sym c.deref_mut.ensures.len ∙ ap length c.deref_mut.ensures.value)

in_all : (c : goal.After-self-in-None-1)
    → IsKept c.lay_everywhere.new.storage c.self.inside.table c.lay_everywhere.new.copies
    × (seen_bytes c.lay_everywhere.new.storage c.self.inside.table c.lay_everywhere.new.copies
    ≡ written (seen_bytes c.self.inside.storage c.self.inside.table c.self.inside.copies.items)
    (c.args.address / line_size * line_size + c.args.address % line_size) c.args.bytes.now)
in_all c =
    let line = c.args.address / line_size in
    let at = c.args.address % line_size in
    let bytes = c.args.bytes.now in
    let items = c.self.inside.copies.items in
    all_stored c.self.inside.table items c.lay_everywhere.new.copies c.self.inside.storage
    c.lay_everywhere.new.storage
    bytes line at c.self.invariant (omega (arith, c.requires.inside)) (sym c.in-None.ensures)
    c.requires.one_line
    (c.lay_everywhere.auto.copies ∙ ap length c.deref_mut.ensures.value)
    (c.lay_everywhere.ensures.storage ∙ ap (λ a. written c.self.inside.storage a bytes) (sym (whole
    c.args.address)))
    (λ k low. c.lay_everywhere.ensures.copies k (omega (arith, low, ap length c.deref_mut.ensures.value))
    ∙ ap (λ (i : List Kept). with_copy (copied i k) line (option_map (λ b. laid b at bytes) (copied i k
    line)))
    c.deref_mut.ensures.value)

pub invariant_of-self-in-None : goal.invariant_of-self-in-None
invariant_of-self-in-None c =
    subst (IsKept c.lay_everywhere.new.storage c.self.inside.table) (sym (back c)) (in_all c).0

pub returns-in-None-clause-bytes : goal.returns-in-None-clause-bytes
returns-in-None-clause-bytes c =
    ap (seen_bytes c.lay_everywhere.new.storage c.self.inside.table) (back c)
    ∙ (in_all c).1
    ∙ ap (λ a. written (seen_bytes c.self.inside.storage c.self.inside.table c.self.inside.copies.items) a
    c.args.bytes.now) (whole c.args.address)
    ∙ ap (λ v. written v.bytes c.args.address c.args.bytes.now) c.self.view_is
