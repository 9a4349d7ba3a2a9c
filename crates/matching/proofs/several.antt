-- Ways: the ways out of the function on several filters, and of the public call.
pub mod Ways
