use Rattle.std.proofs.Common.{◌≡◌, ◌<◌, ◌*◌, ◌+◌, Bool, List, true, false, length, set, vec_len, ap}
use Rattle.std.proofs.Common.{sym, ◌∙◌, arith}
use Rattle.line_table.specs.Sizes.{storage_lines}
use Rattle.line_table.specs.Holders.{Holders, Holdings, holding, mode_in}
use Rattle.line_table.specs.Rows.{modes_of, mode_from}
use Rattle.std.proofs.lemmas.List.{length-set, set-get_or}
use Rattle.line_table.proofs.Seen.{now_seen}
use Rattle.line_table.proofs.Seen.{seen, seen_written, shown}
use Rattle.line_table.proofs.Calls.{held_marked, held_share}
use Rattle.line_table.proofs.table.LineTable.demote.Goals as goal

pub returns-clause-held : goal.returns-clause-held
returns-clause-held c =
    let size : length c.self.inside.held ≡ vec_len c.self.inside.counts * storage_lines =
    omega (arith, c.self.invariant.held_size) in
    let now : mode_in c.args.self.now ≡ seen c.self.inside.held c.self.inside.exclusive =
    now_seen (vec_len c.self.inside.counts) c.self.inside.held c.self.inside.exclusive c.args.self.now size
    c.self.view_is in
    let cpus = ap (λ (v : Holdings). v.cpus) c.self.view_is in
    let cpu_in : c.args.cpu < length c.self.inside.counts.items = omega arith in
    let place_in : c.args.cpu * storage_lines + c.args.line < length c.self.inside.held =
    omega (arith, c.self.invariant.held_size, c.requires.line) in
    let line_in : c.args.line < length c.self.inside.exclusive =
    omega (arith, c.self.invariant.exclusive_size, c.requires.line) in
    let mine = held_marked c.self.inside.held c.self.inside.exclusive c.args.self.now now
    c.args.cpu c.args.line c.requires.held in
    let share = held_share c.self.invariant c.args.cpu c.args.line c.requires.line mine in
    let table : List Bool → List Bool
    → Holders =
    λ held exclusive. mode_in
    (record {
      cpus = vec_len c.self.inside.counts;
      modes =
          modes_of (vec_len c.self.inside.counts) held exclusive;
    }) in
    let same : set c.self.inside.held (c.args.cpu * storage_lines + c.args.line) true ≡ c.self.inside.held =
    ap (set c.self.inside.held (c.args.cpu * storage_lines + c.args.line)) (sym mine)
    ∙ set-get_or c.self.inside.held (c.args.cpu * storage_lines + c.args.line) false in
    ap (λ held. table held c.remove.new.self) (sym same)
    ∙ ap (table (set c.self.inside.held (c.args.cpu * storage_lines + c.args.line) true)) c.remove.ensures
    ∙ shown (vec_len c.self.inside.counts) (set c.self.inside.held (c.args.cpu * storage_lines + c.args.line) true)
    (set c.self.inside.exclusive c.args.line false)
    (length-set c.self.inside.held (c.args.cpu * storage_lines + c.args.line) true ∙ size)
    ∙ seen_written c.self.inside.held c.self.inside.exclusive c.args.cpu c.args.line true false place_in
    line_in c.requires.line share
    ∙ ap (λ (h : Holders). holding h c.args.cpu c.args.line (mode_from true false)) (sym now)
