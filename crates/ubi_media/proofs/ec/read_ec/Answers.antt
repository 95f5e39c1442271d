use Rattle.ubi_media.proofs.Prelude.{ap, ec_reading, reading_by, ec_fields}
use Rattle.ubi_media.proofs.Readings.{ec_is_of}
use Rattle.ubi_media.proofs.ec.read_ec.Goals as goal

pub returns-in-Blank-clause-value : goal.returns-in-Blank-clause-value
unfolding ec_reading
returns-in-Blank-clause-value c = ap (reading_by c.args.geometry.now (ec_fields c.args.bytes.now)) c.in-Blank.ensures

pub returns-in-Blank-clause-is : goal.returns-in-Blank-clause-is
returns-in-Blank-clause-is c = ec_is_of _ _ _ (returns-in-Blank-clause-value c)

pub returns-in-Corrupt-clause-value : goal.returns-in-Corrupt-clause-value
unfolding ec_reading
returns-in-Corrupt-clause-value c = ap (reading_by c.args.geometry.now (ec_fields c.args.bytes.now))
    c.in-Corrupt.ensures

pub returns-in-Corrupt-clause-is : goal.returns-in-Corrupt-clause-is
returns-in-Corrupt-clause-is c = ec_is_of _ _ _ (returns-in-Corrupt-clause-value c)

pub returns-in-Sealed-clause-value : goal.returns-in-Sealed-clause-value
unfolding ec_reading
returns-in-Sealed-clause-value c =
    rw (c.judged.ensures, c.fields_of.ensures)
    (ap (reading_by c.args.geometry.now (ec_fields c.args.bytes.now)) c.in-Sealed.ensures)

pub returns-in-Sealed-clause-is : goal.returns-in-Sealed-clause-is
returns-in-Sealed-clause-is c = ec_is_of _ _ _ (returns-in-Sealed-clause-value c)
