-- The texts that are printed if a call over a source fails.
use Rattle.std.specs.Prelude.{ℕ, List, ◌++◌, codes, decimal}
use Rattle.ubi_media.specs.ErrorTexts.{refusal_text}
use Rattle.ubi_scan.specs.declared.errors.StreamError.{StreamError}
use Rattle.ubi_scan.specs.declared.errors.StreamError.TheVariants as stream

-- the text that says why a call over a source failed
abbrev pub stream_error_text : StreamError → List ℕ
stream_error_text (stream.Refused c) = refusal_text c
stream_error_text (stream.Read p n) = codes "a read failed block=" ++ decimal p ++ codes " written=" ++ decimal n
stream_error_text (stream.Write n) = codes "a write failed written=" ++ decimal n
stream_error_text stream.Memory = codes "out of memory"
