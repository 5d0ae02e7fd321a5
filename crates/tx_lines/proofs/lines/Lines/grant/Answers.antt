-- With a line given up, nobody stands against the request who did not before, and there is room for one line.
use Rattle.std.proofs.Common.{◌≡◌, ◌≤◌, ap, sym, subst, ◌∙◌, arith, true, is_some}
use Rattle.line_table.specs.Sizes.{held_limit}
use Rattle.line_table.specs.Holders.{against, lines_held}
use Rattle.line_copies.specs.Seen as seen
use Rattle.tx_lines.specs.Owned.{holders_in}
use Rattle.tx_lines.proofs.Granting.{same_against, one_fewer}
use Rattle.tx_lines.proofs.lines.Lines.grant.Goals as goal

pub grant-requires-in-Some-clause-free : goal.grant-requires-in-Some-clause-free
grant-requires-in-Some-clause-free c =
    let need = c.args.need in
    let lines = c.self.inside.lines in
    ap (λ n. against n (seen.holders_in c.give_up.new.self) c.args.cpu need.line need.mode) c.give_up.ensures.cpus
    ∙ ap (λ held. against lines.cpus held c.args.cpu need.line need.mode) c.give_up.ensures.held
    ∙ same_against lines.cpus (seen.holders_in lines) c.args.cpu c.in-Some.line need.line need.mode
    ∙ ap (λ v. against v.cpus (holders_in v) c.args.cpu need.line need.mode) c.self.view_is
    ∙ c.requires.free

pub grant-requires-in-Some-clause-room : goal.grant-requires-in-Some-clause-room
grant-requires-in-Some-clause-room c none =
    let lines = c.self.inside.lines in
    let held : is_some (seen.holders_in lines c.args.cpu c.in-Some.line) ≡ true =
    ap (λ v. is_some (holders_in v c.args.cpu c.in-Some.line)) c.self.view_is ∙ (c.in-Some.ensures).held in
    let most : lines_held (seen.holders_in lines) c.args.cpu ≤ held_limit =
    subst (λ v. lines_held (holders_in v) c.args.cpu ≤ held_limit) (sym c.self.view_is)
    (c.has_room.ensures.sound.within c.args.cpu) in
    let fewer = one_fewer (seen.holders_in lines) c.args.cpu c.in-Some.line ((c.in-Some.ensures).in_range) held in
    let same = ap (λ h. lines_held h c.args.cpu) c.give_up.ensures.held in
    omega arith
