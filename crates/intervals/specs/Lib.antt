-- Thicknesses known only within limits (request 13): interval arithmetic (`Interval`), the trace on it (`Limits`), the call (`Calls`), and what the request
-- says of it (`Within`); and laws on these.
pub mod Interval
pub mod Limits
pub mod Calls
pub mod Within
