-- What the steps of matching and of a REQ's answer give: what the public calls promise is query/specs.
pub mod Inner
