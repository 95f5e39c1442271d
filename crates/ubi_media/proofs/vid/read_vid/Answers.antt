use Rattle.ubi_media.proofs.Prelude.{ap, vid_reading, vid_fields}
use Rattle.ubi_media.specs.Vid.{reading_by}
use Rattle.ubi_media.proofs.Readings.{vid_is_of}
use Rattle.ubi_media.proofs.vid.read_vid.Goals as goal

pub returns-in-Blank-clause-value : goal.returns-in-Blank-clause-value
unfolding vid_reading
returns-in-Blank-clause-value c = ap (reading_by c.args.geometry.now (vid_fields c.args.bytes.now)) c.in-Blank.ensures

pub returns-in-Blank-clause-is : goal.returns-in-Blank-clause-is
returns-in-Blank-clause-is c = vid_is_of _ _ _ (returns-in-Blank-clause-value c)

pub returns-in-Corrupt-clause-value : goal.returns-in-Corrupt-clause-value
unfolding vid_reading
returns-in-Corrupt-clause-value c = ap (reading_by c.args.geometry.now (vid_fields c.args.bytes.now))
    c.in-Corrupt.ensures

pub returns-in-Corrupt-clause-is : goal.returns-in-Corrupt-clause-is
returns-in-Corrupt-clause-is c = vid_is_of _ _ _ (returns-in-Corrupt-clause-value c)

pub returns-in-Sealed-clause-value : goal.returns-in-Sealed-clause-value
unfolding vid_reading
returns-in-Sealed-clause-value c =
    rw (c.judged.ensures, c.fields_of.ensures)
    (ap (reading_by c.args.geometry.now (vid_fields c.args.bytes.now)) c.in-Sealed.ensures)

pub returns-in-Sealed-clause-is : goal.returns-in-Sealed-clause-is
returns-in-Sealed-clause-is c = vid_is_of _ _ _ (returns-in-Sealed-clause-value c)
