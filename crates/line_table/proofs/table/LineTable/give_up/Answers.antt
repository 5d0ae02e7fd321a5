use Rattle.std.proofs.Common.{◌≡◌, ◌<◌, ◌*◌, ◌+◌, ◌-◌, Bool, List, false, None, length, set}
use Rattle.std.proofs.Common.{vec_len, ap, sym, ◌∙◌, arith}
use Rattle.line_table.specs.Sizes.{storage_lines}
use Rattle.line_table.specs.Holders.{Holders, Holdings, holding, mode_in}
use Rattle.line_table.specs.Rows.{modes_of}
use Rattle.std.proofs.lemmas.List.{get_or_read, length-set}
use Rattle.bit_set.specs.Counts.{one_if}
use Rattle.line_table.proofs.Seen.{now_seen}
use Rattle.line_table.proofs.Seen.{seen, seen_written, shown}
use Rattle.line_table.proofs.Kept.{kept_written}
use Rattle.line_table.proofs.Calls.{held_marked, held_share, some_counted}
use Rattle.line_table.proofs.table.LineTable.give_up.Goals as goal

pub overflow_sub-index_mut : goal.overflow_sub-index_mut
overflow_sub-index_mut c =
    let size : length c.self.inside.held ≡ vec_len c.self.inside.counts * storage_lines =
    omega (arith, c.self.invariant.held_size) in
    let now : mode_in c.args.self.now ≡ seen c.self.inside.held c.self.inside.exclusive =
    now_seen (vec_len c.self.inside.counts) c.self.inside.held c.self.inside.exclusive c.args.self.now size
    c.self.view_is in
    let cpus = ap (λ (v : Holdings). v.cpus) c.self.view_is in
    let cpu_in : c.args.cpu < length c.self.inside.counts.items = omega arith in
    let place_in : c.args.cpu * storage_lines + c.args.line < length c.self.inside.held =
    omega (arith, c.self.invariant.held_size, c.requires.line) in
    let line_in : c.args.line < length c.self.inside.exclusive =
    omega (arith, c.self.invariant.exclusive_size, c.requires.line) in
    let mine = held_marked c.self.inside.held c.self.inside.exclusive c.args.self.now now
    c.args.cpu c.args.line c.requires.held in
    let was =
    get_or_read c.self.inside.counts.items c.args.cpu c.index_mut.result.now cpu_in
    c.index_mut.ensures.value 0 in
    omega (arith, was, some_counted c.self.invariant c.args.cpu c.args.line cpu_in c.requires.line mine)

pub invariant_of-self : goal.invariant_of-self
invariant_of-self c =
    let size : length c.self.inside.held ≡ vec_len c.self.inside.counts * storage_lines =
    omega (arith, c.self.invariant.held_size) in
    let now : mode_in c.args.self.now ≡ seen c.self.inside.held c.self.inside.exclusive =
    now_seen (vec_len c.self.inside.counts) c.self.inside.held c.self.inside.exclusive c.args.self.now size
    c.self.view_is in
    let cpus = ap (λ (v : Holdings). v.cpus) c.self.view_is in
    let cpu_in : c.args.cpu < length c.self.inside.counts.items = omega arith in
    let place_in : c.args.cpu * storage_lines + c.args.line < length c.self.inside.held =
    omega (arith, c.self.invariant.held_size, c.requires.line) in
    let line_in : c.args.line < length c.self.inside.exclusive =
    omega (arith, c.self.invariant.exclusive_size, c.requires.line) in
    let mine = held_marked c.self.inside.held c.self.inside.exclusive c.args.self.now now
    c.args.cpu c.args.line c.requires.held in
    let share = held_share c.self.invariant c.args.cpu c.args.line c.requires.line mine in
    let was =
    get_or_read c.self.inside.counts.items c.args.cpu c.index_mut.result.now cpu_in
    c.index_mut.ensures.value 0 in
    let some = some_counted c.self.invariant c.args.cpu c.args.line cpu_in c.requires.line mine in
    let marked = ap one_if mine in
    rw (c.remove.ensures, c.remove-2.ensures, c.remove-3.ensures)
    (kept_written c.self.invariant c.args.cpu c.args.line false false (c.index_mut.result.now - 1) cpu_in
    c.requires.line share (omega arith) (omega (arith, was, c.self.invariant.within c.args.cpu cpu_in)))

pub returns-clause-held : goal.returns-clause-held
returns-clause-held c =
    let size : length c.self.inside.held ≡ vec_len c.self.inside.counts * storage_lines =
    omega (arith, c.self.invariant.held_size) in
    let now : mode_in c.args.self.now ≡ seen c.self.inside.held c.self.inside.exclusive =
    now_seen (vec_len c.self.inside.counts) c.self.inside.held c.self.inside.exclusive c.args.self.now size
    c.self.view_is in
    let cpus = ap (λ (v : Holdings). v.cpus) c.self.view_is in
    let cpu_in : c.args.cpu < length c.self.inside.counts.items = omega arith in
    let place_in : c.args.cpu * storage_lines + c.args.line < length c.self.inside.held =
    omega (arith, c.self.invariant.held_size, c.requires.line) in
    let line_in : c.args.line < length c.self.inside.exclusive =
    omega (arith, c.self.invariant.exclusive_size, c.requires.line) in
    let mine = held_marked c.self.inside.held c.self.inside.exclusive c.args.self.now now
    c.args.cpu c.args.line c.requires.held in
    let share = held_share c.self.invariant c.args.cpu c.args.line c.requires.line mine in
    let table : List Bool → List Bool
    → Holders =
    λ held exclusive. mode_in
    (record {
      cpus = vec_len c.self.inside.counts;
      modes =
          modes_of (vec_len c.self.inside.counts) held exclusive;
    }) in
    ap (λ held. table held c.remove-3.new.self) c.remove.ensures
    ∙ ap (table (set c.self.inside.held (c.args.cpu * storage_lines + c.args.line) false)) c.remove-3.ensures
    ∙ shown (vec_len c.self.inside.counts) (set c.self.inside.held (c.args.cpu * storage_lines + c.args.line) false)
    (set c.self.inside.exclusive c.args.line false)
    (length-set c.self.inside.held (c.args.cpu * storage_lines + c.args.line) false ∙ size)
    ∙ seen_written c.self.inside.held c.self.inside.exclusive c.args.cpu c.args.line false false place_in
    line_in c.requires.line share
    ∙ ap (λ (h : Holders). holding h c.args.cpu c.args.line None) (sym now)
