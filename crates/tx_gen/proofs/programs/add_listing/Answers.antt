use Rattle.std.proofs.Common.{◌≡◌, ℕ, ◌+◌, ◌%◌, List, ◌++◌, ap, sym, ◌∙◌, append_assoc, arith}
use Rattle.std.specs.String.{string_bytes}
use Rattle.std.proofs.lemmas.Result.{on_ok_weaker}
use Rattle.tx_gen.specs.Programs.{for_first, program_of}
use Rattle.tx_gen.proofs.Rounds.{two_on, program_drawn, apart_drawn, one_more, whole}
use Rattle.tx_gen.proofs.programs.add_listing.Goals as goal

pub loop-cpu-preserved : goal.loop-cpu-preserved
loop-cpu-preserved c =
    let number = c.args.number in
    let cpu = c.loop-cpu.cpu in
    let apart = c.stride_for-stride.result in
    let before = c.loop-cpu.draws.state in
    let drawn = c.loop-cpu.invariant.state in
    let apart_is = apart_drawn number c.draw.new.self.state c.draw-2.result apart c.draw.ensures.state
    c.draw-2.ensures.value c.stride_for-stride.ensures.value in
    record {
      text =
          c.in_ok-add_drawn_program.ensures.program
          ∙ ap (λ (t : List ℕ). string_bytes c.loop-cpu.text ++ t)
          (program_drawn number cpu before apart drawn apart_is)
          ∙ ap (λ (t : List ℕ). t ++ program_of number cpu) c.loop-cpu.invariant.text
          ∙ append_assoc (string_bytes c.add_cpu_lines.new.text) (for_first cpu (program_of number))
          (program_of number cpu)
          ∙ ap (λ (t : List ℕ). string_bytes c.add_cpu_lines.new.text ++ t)
          (sym (one_more cpu (program_of number)));
      state = c.in_ok-add_drawn_program.ensures.state ∙ two_on number cpu before drawn;
    }

pub returns : goal.returns
returns c =
    let number = c.args.number in
    let count = 2 + c.draw.result % 7 in
    let apart = c.stride_for-stride.result in
    let apart_is = apart_drawn number c.draw.new.self.state c.draw-2.result apart c.draw.ensures.state
    c.draw-2.ensures.value c.stride_for-stride.ensures.value in
    let counted = ap (λ (x : ℕ). 2 + x % 7) c.draw.ensures.value in
    let reached : c.loop-cpu.cpu ≡ count = omega arith in
    on_ok_weaker c.writeln.result (λ last.
    whole number count c.loop-cpu.cpu apart (string_bytes c.args.text.now)
    (string_bytes c.add_cpu_lines.new.text) (string_bytes c.loop-cpu.text)
    (string_bytes c.add_show_line.new.text) (string_bytes c.writeln.new.self) counted (reached ∙ counted)
    apart_is c.in_ok-add_cpu_lines.ensures
    c.loop-cpu.invariant.text c.in_ok-add_show_line.ensures last) c.writeln.ensures.bytes
