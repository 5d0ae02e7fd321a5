-- The bytes of a block that its line shows.
use Rattle.std.proofs.Common.{◌≡◌, refl, ℕ, ◌<◌, ◌^◌, List, [], length, slice_index, is_some, unwrap_or}
use Rattle.std.specs.Int.{to_be_bytes}
use mir.Syntax.{w8, w16, w64}
use Rattle.byteorder.specs.Numbers.{big_number-reads_back}
use Rattle.tx_control.specs.Nesting.{is_constrained}
use Rattle.tx_control.specs.declared.begins.Begin.{Begin}
use Rattle.tx_control.specs.declared.causes.Why.{Why}
use Rattle.tx_abort.specs.Block.{block, fields, code_in, flags}
use Rattle.tx_abort.specs.Causes.{cause_of}
use Rattle.report_text.specs.Storage.{bytes_at, number_at, block_line, block_head, block_tail}
use Rattle.report_text.specs.Blocks.{told_line}

module _ (why : Why) (nest : List Begin) (general : List ℕ) (at : ℕ) where
  format : slice_index (block why nest general at) 0 ≡ 1
  unfolding block fields
  format = refl

  flag_byte : bytes_at (block why nest general at) 1 1
      ≡ to_be_bytes w8 (flags (is_some (cause_of why).conflict) (is_constrained nest))
  unfolding block fields
  flag_byte = refl

  token : bytes_at (block why nest general at) 16 8 ≡ to_be_bytes w64 (unwrap_or (cause_of why).conflict 0)
  unfolding block fields
  token = refl

  address : bytes_at (block why nest general at) 24 8 ≡ to_be_bytes w64 at
  unfolding block fields
  address = refl

  exception : bytes_at (block why nest general at) 38 2 ≡ to_be_bytes w16 (code_in (cause_of why).exception)
  unfolding block fields
  exception = refl

  depth : length nest < 256 ^ 2 → number_at (block why nest general at) 6 2 ≡ length nest
  unfolding block fields number_at
  depth few = big_number-reads_back 2 (length nest) [] few

  abort_code : (cause_of why).code < 256 ^ 8 → number_at (block why nest general at) 8 8 ≡ (cause_of why).code
  unfolding block fields number_at
  abort_code fits = big_number-reads_back 8 (cause_of why).code [] fits

  pub line_told : (first : ℕ) → length nest < 256 ^ 2 → (cause_of why).code < 256 ^ 8
      → block_line first (block why nest general at) ≡ told_line first why nest at
  unfolding block_line block_head block_tail
  line_told first few fits =
      rw (format, flag_byte, depth few, abort_code fits, token, address, exception) refl
