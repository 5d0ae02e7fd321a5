-- What the test of protection says of bytes.
use Rattle.z_touch.proofs.StoredText.{stored_text}
use Rattle.z_touch.proofs.laws.text_is_not_stored_into.Goals as goal

pub returns : goal.returns
returns c = stored_text
