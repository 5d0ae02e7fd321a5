use Rattle.std.proofs.Common.{◌<◌, Some, sym, ap, ◌∙◌, arith}
use Rattle.line_table.specs.Holders.{mode_in}
use Rattle.line_copies.specs.Directory.{number_of}
use Rattle.line_copies.proofs.Flat.{one_exclusive}
use Rattle.line_copies.proofs.Shown.{none_at_all, none_beside_shared}
use Rattle.line_copies.proofs.directory.find_exclusive.Goals as goal

pub returns-in_default : goal.returns-in_default
returns-in_default c =
    sym (ap number_of (none_at_all (mode_in c.args.table.now) c.args.table.now.cpus c.args.line
    c.in_default.ensures.none))

pub overflow_add-result : goal.overflow_add-result
overflow_add-result c =
    let low : c.in-Some.holder < c.args.table.now.cpus = c.in-Some.ensures.in_range in
    omega (arith, low, c.requires.few)

pub returns-in-Some-Exclusive : goal.returns-in-Some-Exclusive
returns-in-Some-Exclusive c =
    let mine = sym c.in-Some-Exclusive.ensures.value ∙ ap Some c.in-Some-Exclusive.field-0-is in
    sym (ap number_of (one_exclusive c.args.table.now.cpus (λ cpu. mode_in c.args.table.now cpu c.args.line)
    c.in-Some.holder c.in-Some.ensures.in_range mine
    (λ other _ ne. c.in-Some-Exclusive.ensures.sound.alone c.in-Some.holder other c.args.line mine ne)))

pub returns-in-Some-Shared : goal.returns-in-Some-Shared
returns-in-Some-Shared c =
    sym (ap number_of (none_beside_shared (mode_in c.args.table.now) c.args.table.now.cpus c.in-Some.holder
    c.args.line
    (λ k _ is ne. c.in-Some-Shared.ensures.sound.alone k c.in-Some.holder c.args.line is ne)
    (sym c.in-Some-Shared.ensures.value ∙ ap Some c.in-Some-Shared.field-0-is)))
