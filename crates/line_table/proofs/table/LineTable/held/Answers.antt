use Rattle.std.proofs.Common.{◌≡◌, ◌<◌, ◌*◌, length, vec_len, ap, sym, ◌∙◌, arith}
use Rattle.line_table.specs.Sizes.{storage_lines}
use Rattle.line_table.specs.Holders.{lines_held, mode_in}
use Rattle.std.proofs.lemmas.List.{get_or_read}
use Rattle.line_table.proofs.Seen.{now_seen}
use Rattle.line_table.proofs.Seen.{seen}
use Rattle.line_table.proofs.Kept.{held_count}
use Rattle.line_table.proofs.table.LineTable.held.Goals as goal

pub returns-clause-value : goal.returns-clause-value
returns-clause-value c =
    let size : length c.self.inside.held ≡ vec_len c.self.inside.counts * storage_lines =
    omega (arith, c.self.invariant.held_size) in
    let now : mode_in c.args.self.now ≡ seen c.self.inside.held c.self.inside.exclusive =
    now_seen (vec_len c.self.inside.counts) c.self.inside.held c.self.inside.exclusive c.args.self.now size
    c.self.view_is in
    let cpus = ap (λ v. v.cpus) c.self.view_is in
    let within : c.args.cpu < length c.self.inside.counts.items = omega arith in
    get_or_read c.self.inside.counts.items c.args.cpu c.index.result.now within c.index.ensures 0
    ∙ held_count c.self.invariant c.args.cpu within
    ∙ sym (ap (λ h. lines_held h c.args.cpu) now)
