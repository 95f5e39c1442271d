-- Reads at places that failed.
use Rattle.ubi_detect.proofs.Prelude.{◌≡◌, ℕ, Agreed, DetectError, IsDetectError, IsReadAt, IsReadError, Source}
use Rattle.ubi_detect.specs.declared.detect.DetectError.TheVariants as error

pub read_error : (n : ℕ) (e : DetectError) → IsReadAt n e → IsReadError n e
read_error n (error.Undetected c) is = is
read_error n (error.Read at) is = is
read_error n error.Memory is = tt

-- a read that failed, or memory that ran out, is why nothing is detected
pub read_detect_error : (k : Source) (agrees : Agreed) (n : ℕ) (e : DetectError) → n ≡ k.size → IsReadError n e → IsDetectError k agrees e
read_detect_error k agrees n (error.Undetected c) size is = absurd is
read_detect_error k agrees n (error.Read at) size is = rw (← size) is
read_detect_error k agrees n error.Memory size is = tt
