use Rattle.std.proofs.Common.{◌≡◌, ◌*◌, ◌+◌, true, false, length, get_or, vec_len, ap, sym, subst, ◌∙◌, arith}
use Rattle.line_table.specs.Sizes.{storage_lines}
use Rattle.line_table.specs.Holders.{Holders, IsSound, mode_in}
use Rattle.line_table.specs.Rows.{mode_from}
use Rattle.line_table.proofs.Seen.{now_seen}
use Rattle.line_table.proofs.Seen.{seen, seen_within}
use Rattle.line_table.proofs.Kept.{sound}
use Rattle.line_table.proofs.table.LineTable.mode_of.Goals as goal

pub returns-then-not-has-clause-value : goal.returns-then-not-has-clause-value
returns-then-not-has-clause-value c =
    let size : length c.self.inside.held ≡ vec_len c.self.inside.counts * storage_lines =
    omega (arith, c.self.invariant.held_size) in
    let now : mode_in c.args.self.now ≡ seen c.self.inside.held c.self.inside.exclusive =
    now_seen (vec_len c.self.inside.counts) c.self.inside.held c.self.inside.exclusive c.args.self.now size
    c.self.view_is in
    ap (λ h. mode_from h (get_or c.self.inside.exclusive c.args.line false)) (c.if-not-has.ensures)
    ∙ sym (ap (λ (h : Holders). h c.args.cpu c.args.line) now
    ∙ seen_within c.self.inside.held c.self.inside.exclusive c.args.cpu c.args.line c.requires.line)

pub returns-then-not-has-clause-sound : goal.returns-then-not-has-clause-sound
returns-then-not-has-clause-sound c =
    let size : length c.self.inside.held ≡ vec_len c.self.inside.counts * storage_lines =
    omega (arith, c.self.invariant.held_size) in
    let now : mode_in c.args.self.now ≡ seen c.self.inside.held c.self.inside.exclusive =
    now_seen (vec_len c.self.inside.counts) c.self.inside.held c.self.inside.exclusive c.args.self.now size
    c.self.view_is in
    subst IsSound (sym now) (sound c.self.invariant)

pub returns-then-has-clause-value : goal.returns-then-has-clause-value
returns-then-has-clause-value c =
    let size : length c.self.inside.held ≡ vec_len c.self.inside.counts * storage_lines =
    omega (arith, c.self.invariant.held_size) in
    let now : mode_in c.args.self.now ≡ seen c.self.inside.held c.self.inside.exclusive =
    now_seen (vec_len c.self.inside.counts) c.self.inside.held c.self.inside.exclusive c.args.self.now size
    c.self.view_is in
    ap (λ h. mode_from h true) (c.if-not-has.ensures)
    ∙ ap (mode_from (get_or c.self.inside.held (c.args.cpu * storage_lines + c.args.line) false)) (c.if-has.ensures)
    ∙ sym (ap (λ (h : Holders). h c.args.cpu c.args.line) now
    ∙ seen_within c.self.inside.held c.self.inside.exclusive c.args.cpu c.args.line c.requires.line)

pub returns-then-has-clause-sound : goal.returns-then-has-clause-sound
returns-then-has-clause-sound c =
    let size : length c.self.inside.held ≡ vec_len c.self.inside.counts * storage_lines =
    omega (arith, c.self.invariant.held_size) in
    let now : mode_in c.args.self.now ≡ seen c.self.inside.held c.self.inside.exclusive =
    now_seen (vec_len c.self.inside.counts) c.self.inside.held c.self.inside.exclusive c.args.self.now size
    c.self.view_is in
    subst IsSound (sym now) (sound c.self.invariant)

pub returns-else-has-clause-value : goal.returns-else-has-clause-value
returns-else-has-clause-value c =
    let size : length c.self.inside.held ≡ vec_len c.self.inside.counts * storage_lines =
    omega (arith, c.self.invariant.held_size) in
    let now : mode_in c.args.self.now ≡ seen c.self.inside.held c.self.inside.exclusive =
    now_seen (vec_len c.self.inside.counts) c.self.inside.held c.self.inside.exclusive c.args.self.now size
    c.self.view_is in
    ap (λ h. mode_from h false) (c.if-not-has.ensures)
    ∙ ap (mode_from (get_or c.self.inside.held (c.args.cpu * storage_lines + c.args.line) false)) (c.if-has.ensures)
    ∙ sym (ap (λ (h : Holders). h c.args.cpu c.args.line) now
    ∙ seen_within c.self.inside.held c.self.inside.exclusive c.args.cpu c.args.line c.requires.line)

pub returns-else-has-clause-sound : goal.returns-else-has-clause-sound
returns-else-has-clause-sound c =
    let size : length c.self.inside.held ≡ vec_len c.self.inside.counts * storage_lines =
    omega (arith, c.self.invariant.held_size) in
    let now : mode_in c.args.self.now ≡ seen c.self.inside.held c.self.inside.exclusive =
    now_seen (vec_len c.self.inside.counts) c.self.inside.held c.self.inside.exclusive c.args.self.now size
    c.self.view_is in
    subst IsSound (sym now) (sound c.self.invariant)
