use Rattle.std.proofs.Common.{◌≡◌, ◌≤◌, ◌*◌, ◌+◌, ◌-◌, ℕ, None, length, vec_len, sym, subst, arith}
use Rattle.line_table.specs.Sizes.{storage_lines}
use Rattle.line_table.specs.Holders.{Holders, IsFirstHeld, mode_in}
use Rattle.bit_set.specs.Bits.{IsNext, NoneMarked}
use Rattle.line_table.proofs.Seen.{now_seen}
use Rattle.line_table.proofs.Seen.{seen}
use Rattle.line_table.proofs.Calls.{first_holder, no_holder}
use Rattle.line_table.proofs.table.LineTable.next_holder.Goals as goal

pub returns-clause-found : goal.returns-clause-found
returns-clause-found c =
    let size : length c.self.inside.held ≡ vec_len c.self.inside.counts * storage_lines =
    omega (arith, c.self.invariant.held_size) in
    let now : mode_in c.args.self.now ≡ seen c.self.inside.held c.self.inside.exclusive =
    now_seen (vec_len c.self.inside.counts) c.self.inside.held c.self.inside.exclusive c.args.self.now size
    c.self.view_is in
    let ends : c.args.line * c.self.inside.width + c.len.result ≡ c.args.line * c.self.inside.width + length
    c.self.inside.counts.items = omega arith in
    let next =
    subst (λ end. IsNext c.self.inside.holders (c.args.line * c.self.inside.width + c.args.from) end
    c.in_ok-place.place) ends c.in_ok-place.ensures.found in
    subst (λ (h : Holders). IsFirstHeld (λ cpu. h cpu c.args.line) c.args.from
    (c.in_ok-place.place - c.args.line * c.self.inside.width)) (sym now)
    (first_holder c.self.invariant c.args.line c.args.from c.in_ok-place.place c.requires next)

pub returns-in_err-place-clause-none : goal.returns-in_err-place-clause-none
returns-in_err-place-clause-none c =
    let size : length c.self.inside.held ≡ vec_len c.self.inside.counts * storage_lines =
    omega (arith, c.self.invariant.held_size) in
    let now : mode_in c.args.self.now ≡ seen c.self.inside.held c.self.inside.exclusive =
    now_seen (vec_len c.self.inside.counts) c.self.inside.held c.self.inside.exclusive c.args.self.now size
    c.self.view_is in
    let ends : c.args.line * c.self.inside.width + c.len.result ≡ c.args.line * c.self.inside.width + length
    c.self.inside.counts.items = omega arith in
    let none =
    subst (NoneMarked c.self.inside.holders (c.args.line * c.self.inside.width + c.args.from)) ends
    c.in_err-place.ensures.none in
    rw c.from_residual.ensures
    (subst (λ (h : Holders). (cpu : ℕ) → c.args.from ≤ cpu → h cpu c.args.line ≡ None) (sym now)
    (no_holder c.self.invariant c.args.line c.args.from c.requires none))
