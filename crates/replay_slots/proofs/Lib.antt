mod Says
mod Agreement
