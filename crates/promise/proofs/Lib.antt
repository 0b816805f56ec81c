-- Document 02, request 4: `Promising.promise` is the theorem, `Calls` has calls that it speaks of and some that it does not, computed.
pub mod Calls
pub mod Promising
