use Rattle.std.proofs.Common.{rules, ◌≡◌, ◌∙◌, ap, sym}
use Rattle.std.specs.Int.{to_be_bytes}
use mir.Syntax.{w64}
use Rattle.std.proofs.lemmas.Bool.{false≢true}
use Rattle.std.specs.Result.{is_ok}
use Rattle.hex.specs.Hex.{encode_lower}
use Rattle.tx_journal.proofs.Hexadecimal.{decode_doubleword, doubleword_again}
use Rattle.tx_journal.proofs.numbers.read_doubleword.Goals as goal

pub returns-in_err-ok-clause-none : goal.returns-in_err-ok-clause-none
returns-in_err-ok-clause-none c = rw c.from_residual.ensures (λ n few is.
    let told = rw (decode_doubleword c.args.digits.now n is) at c.decode_to_slice.ensures.value in
    false≢true (c.in_err-ok.ensures.variant ∙ ap is_ok told.0))

pub returns-then-not-is_hexadecimal-clause-none : goal.returns-then-not-is_hexadecimal-clause-none
returns-then-not-is_hexadecimal-clause-none c = λ n few is.
    let told = rw (decode_doubleword c.args.digits.now n is) at c.decode_to_slice.ensures.value in
    let same : c.from_be_bytes-doubleword.result ≡ n = c.from_be_bytes-doubleword.ensures
    ∙ doubleword_again c.decode_to_slice.new.out n few told.1 in
    let there =
    c.is_hexadecimal.ensures.1 (is
    ∙ ap encode_lower (ap (to_be_bytes w64) (sym same) ∙ sym c.to_be_bytes.ensures)) in
    search (rules, there)
