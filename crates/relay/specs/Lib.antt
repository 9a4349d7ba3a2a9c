-- What the program's functions hand on: not for an auditor. What it prints is program/specs/Program, `output`.
pub mod Inner
