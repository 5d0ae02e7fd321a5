-- What `==` of two begins says.
pub mod SameBegins
