-- What the line of a diagnostic block tells of the abort that made the block.
use Rattle.std.specs.Prelude.{ℕ, is_some, List, ◌++◌, length, unwrap_or, codes}
use Rattle.std.specs.Int.{to_be_bytes}
use Rattle.hex.specs.Hex.{encode_lower}
use mir.Syntax.{w8}
use Rattle.tx_control.specs.Nesting.{is_constrained}
use Rattle.tx_control.specs.declared.begins.Begin.{Begin}
use Rattle.tx_control.specs.declared.causes.Why.{Why}
use Rattle.tx_abort.specs.Block.{code_in, flags}
use Rattle.tx_abort.specs.Causes.{cause_of}
use Rattle.report_text.specs.Digits.{labelled, word_text, halfword_text, doubleword_text}

abbrev pub byte_text : ℕ → List ℕ
byte_text n = encode_lower (to_be_bytes w8 n)

-- format 1, the flags of the cause and of the outermost begin, how many begins were open, and the abort code
abbrev pub told_head : Why → List Begin → List ℕ
told_head why nest =
    labelled (codes " FORMAT ") 1
    ++ (codes " FLAGS " ++ (byte_text (flags (is_some (cause_of why).conflict) (is_constrained nest))
    ++ (labelled (codes " DEPTH ") (length nest) ++ labelled (codes " CODE ") (cause_of why).code)))

-- the line of the conflict, the address, and the code of the exception, each 0 where there is none
abbrev pub told_tail : Why → ℕ → List ℕ
told_tail why at =
    codes " TOKEN " ++ (doubleword_text (unwrap_or (cause_of why).conflict 0)
    ++ (codes " AT " ++ (doubleword_text at
    ++ (codes " PI " ++ (halfword_text (code_in (cause_of why).exception) ++ codes "\n")))))

abbrev pub told_line : ℕ → Why → List Begin → ℕ → List ℕ
told_line first why nest at = codes "D " ++ (word_text first ++ (told_head why nest ++ told_tail why at))
