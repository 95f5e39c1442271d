pub mod SameImages
