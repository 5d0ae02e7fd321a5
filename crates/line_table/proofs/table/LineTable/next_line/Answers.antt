use Rattle.std.proofs.Common.{◌≡◌, ◌≤◌, ◌*◌, ◌-◌, ℕ, None, length, vec_len, sym, subst, arith}
use Rattle.line_table.specs.Sizes.{storage_lines}
use Rattle.line_table.specs.Holders.{Holders, IsFirstHeld, mode_in}
use Rattle.line_table.proofs.Seen.{now_seen}
use Rattle.line_table.proofs.Seen.{seen}
use Rattle.line_table.proofs.Calls.{first_line, no_line}
use Rattle.line_table.proofs.table.LineTable.next_line.Goals as goal

pub returns-clause-found : goal.returns-clause-found
returns-clause-found c =
    let size : length c.self.inside.held ≡ vec_len c.self.inside.counts * storage_lines =
    omega (arith, c.self.invariant.held_size) in
    let now : mode_in c.args.self.now ≡ seen c.self.inside.held c.self.inside.exclusive =
    now_seen (vec_len c.self.inside.counts) c.self.inside.held c.self.inside.exclusive c.args.self.now size
    c.self.view_is in
    subst (λ (h : Holders). IsFirstHeld (h c.args.cpu) c.args.from (c.in_ok-place.place - c.args.cpu * storage_lines))
    (sym now)
    (first_line c.self.inside.held c.self.inside.exclusive c.args.cpu c.args.from c.in_ok-place.place
    c.in_ok-place.ensures.found)

pub returns-in_err-place-clause-none : goal.returns-in_err-place-clause-none
returns-in_err-place-clause-none c =
    let size : length c.self.inside.held ≡ vec_len c.self.inside.counts * storage_lines =
    omega (arith, c.self.invariant.held_size) in
    let now : mode_in c.args.self.now ≡ seen c.self.inside.held c.self.inside.exclusive =
    now_seen (vec_len c.self.inside.counts) c.self.inside.held c.self.inside.exclusive c.args.self.now size
    c.self.view_is in
    rw c.from_residual.ensures
    (subst (λ (h : Holders). (line : ℕ) → c.args.from ≤ line → h c.args.cpu line ≡ None) (sym now)
    (no_line c.self.inside.held c.self.inside.exclusive c.args.cpu c.args.from c.in_err-place.ensures.none))
