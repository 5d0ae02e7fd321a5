use Rattle.std.proofs.Common.{◌≡◌, ◌<◌, ◌*◌, ◌+◌, Bool, List, true, Some, length, set, vec_len, ap, sym}
use Rattle.std.proofs.Common.{subst, ◌∙◌, arith}
use Rattle.line_table.specs.Sizes.{storage_lines, held_limit}
use Rattle.line_table.specs.Holders.{Holders, Holdings, holding, against, lines_held, mode_in}
use Rattle.line_table.specs.Rows.{modes_of}
use Rattle.std.specs.Prelude.{not}
use Rattle.std.specs.Int.{from_bool}
use Rattle.std.proofs.lemmas.List.{get_or_read, length-set}
use Rattle.line_table.proofs.Seen.{now_seen}
use Rattle.line_table.proofs.Seen.{seen, seen_written, shown}
use Rattle.line_table.proofs.Kept.{kept_written}
use Rattle.line_table.proofs.Calls.{free_share, counted_more}
use Rattle.line_table.proofs.table.LineTable.grant.Goals as goal

pub invariant_of-self : goal.invariant_of-self
invariant_of-self c =
    let size : length c.self.inside.held ≡ vec_len c.self.inside.counts * storage_lines =
    omega (arith, c.self.invariant.held_size) in
    let now : mode_in c.args.self.now ≡ seen c.self.inside.held c.self.inside.exclusive =
    now_seen (vec_len c.self.inside.counts) c.self.inside.held c.self.inside.exclusive c.args.self.now size
    c.self.view_is in
    let cpus = ap (λ (v : Holdings). v.cpus) c.self.view_is in
    let cpu_in : c.args.cpu < length c.self.inside.counts.items = omega arith in
    let place_in : c.args.cpu * storage_lines + c.args.line < length c.self.inside.held =
    omega (arith, c.self.invariant.held_size, c.requires.line) in
    let line_in : c.args.line < length c.self.inside.exclusive =
    omega (arith, c.self.invariant.exclusive_size, c.requires.line) in
    let share =
    free_share c.self.invariant c.args.self.now.cpus c.args.cpu c.args.line c.args.mode
    c.is_exclusive.result (omega arith) c.requires.line
    (ap (λ (h : Holders). against c.args.self.now.cpus h c.args.cpu c.args.line c.args.mode) (sym now)
    ∙ c.requires.free) c.is_exclusive.ensures in
    let was =
    get_or_read c.self.inside.counts.items c.args.cpu c.index_mut.result.now cpu_in
    c.index_mut.ensures.value 0 in
    let more = c.from-more.ensures ∙ ap (λ h. from_bool (not h)) c.has.ensures in
    let counts = counted_more c.self.invariant c.args.cpu c.args.line cpu_in
    (λ free. subst (λ (h : Holders). lines_held h c.args.cpu < held_limit) now
    (c.requires.room (ap (λ (h : Holders). h c.args.cpu c.args.line) now ∙ free))) in
    rw (c.insert.ensures, c.insert-2.ensures, c.put.ensures)
    (kept_written c.self.invariant c.args.cpu c.args.line true c.is_exclusive.result
    (c.index_mut.result.now + c.from-more.result) cpu_in c.requires.line share
    (omega (arith, counts.0, was, more)) (omega (arith, counts.1, was, more)))

pub returns-clause-held : goal.returns-clause-held
returns-clause-held c =
    let size : length c.self.inside.held ≡ vec_len c.self.inside.counts * storage_lines =
    omega (arith, c.self.invariant.held_size) in
    let now : mode_in c.args.self.now ≡ seen c.self.inside.held c.self.inside.exclusive =
    now_seen (vec_len c.self.inside.counts) c.self.inside.held c.self.inside.exclusive c.args.self.now size
    c.self.view_is in
    let cpus = ap (λ (v : Holdings). v.cpus) c.self.view_is in
    let cpu_in : c.args.cpu < length c.self.inside.counts.items = omega arith in
    let place_in : c.args.cpu * storage_lines + c.args.line < length c.self.inside.held =
    omega (arith, c.self.invariant.held_size, c.requires.line) in
    let line_in : c.args.line < length c.self.inside.exclusive =
    omega (arith, c.self.invariant.exclusive_size, c.requires.line) in
    let share =
    free_share c.self.invariant c.args.self.now.cpus c.args.cpu c.args.line c.args.mode
    c.is_exclusive.result (omega arith) c.requires.line
    (ap (λ (h : Holders). against c.args.self.now.cpus h c.args.cpu c.args.line c.args.mode) (sym now)
    ∙ c.requires.free) c.is_exclusive.ensures in
    let table : List Bool → List Bool
    → Holders =
    λ held exclusive. mode_in
    (record {
      cpus = vec_len c.self.inside.counts;
      modes =
          modes_of (vec_len c.self.inside.counts) held exclusive;
    }) in
    ap (λ held. table held c.put.new.self) c.insert.ensures
    ∙ ap (table (set c.self.inside.held (c.args.cpu * storage_lines + c.args.line) true)) c.put.ensures
    ∙ shown (vec_len c.self.inside.counts) (set c.self.inside.held (c.args.cpu * storage_lines + c.args.line) true)
    (set c.self.inside.exclusive c.args.line c.is_exclusive.result)
    (length-set c.self.inside.held (c.args.cpu * storage_lines + c.args.line) true ∙ size)
    ∙ seen_written c.self.inside.held c.self.inside.exclusive c.args.cpu c.args.line true
    c.is_exclusive.result place_in line_in c.requires.line share
    ∙ ap (holding (seen c.self.inside.held c.self.inside.exclusive) c.args.cpu c.args.line)
    c.is_exclusive.ensures
    ∙ ap (λ (h : Holders). holding h c.args.cpu c.args.line (Some c.args.mode)) (sym now)
