-- The texts that are printed for images that aren't compared.
use Rattle.std.specs.Prelude.{ℕ, List, ◌++◌, codes}
use Rattle.ubi_media.specs.ErrorTexts.{refusal_text}
use Rattle.ubi_scan.specs.ErrorTexts.{stream_error_text}
use Rattle.ubi_compare.specs.declared.errors.CompareError.{CompareError}
use Rattle.ubi_compare.specs.declared.errors.CompareError.TheVariants as error
use Rattle.ubi_compare.specs.declared.errors.CompareFault.{CompareFault}
use Rattle.ubi_compare.specs.declared.errors.CompareFault.TheVariants as fault

-- the text that says why two images aren't compared: which of them is at fault, and how
abbrev pub compare_error_text : CompareError → List ℕ
compare_error_text (error.Left c) = codes "left " ++ refusal_text c
compare_error_text (error.Right c) = codes "right " ++ refusal_text c
compare_error_text error.Memory = codes "out of memory"

-- the text that says why two sources aren't compared
abbrev pub compare_fault_text : CompareFault → List ℕ
compare_fault_text (fault.Left e) = codes "left " ++ stream_error_text e
compare_fault_text (fault.Right e) = codes "right " ++ stream_error_text e
compare_fault_text fault.Memory = codes "out of memory"
