-- `value::keep` meets its contract, form by form. Assumes nothing.
use Rattle.walk.proofs.Values.{kept_decimal, kept_hex}
use Rattle.walk.proofs.value.keep.Goals as goal

pub returns-in-Decimal : goal.returns-in-Decimal
returns-in-Decimal c = kept_decimal _ _ _ c.in-Decimal.is c.decimal.ensures c.keep_number.ensures

pub returns-in-Hex : goal.returns-in-Hex
returns-in-Hex c = kept_hex _ _ _ c.in-Hex.is c.hex.ensures c.ok.ensures.value c.keep_number-in-Hex.ensures
