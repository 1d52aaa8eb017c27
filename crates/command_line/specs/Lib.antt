pub mod Job
pub mod Program
pub mod Words
